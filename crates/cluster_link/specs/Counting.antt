-- Which faults were counted, and what came of requests.
use Rattle.std.specs.Prelude.{◌≡◌, ◌⊎◌, ℕ, List, [], Result, Ok, Err}
use Rattle.edge_io.specs.Counts.{Rose}
use Rattle.edge_io.specs.Sent.{Sent, IsWrittenOut, IsSentOn, IsBrokenOff}
use Rattle.cluster_link.specs.declared.refusal.ClusterNo.{ClusterNo}
use Rattle.cluster_link.specs.declared.refusal.ClusterNo.TheVariants.{ReadFault, WriteFault, Memory}

-- the source's count of faults rose where the answer says so, and else stayed
abbrev pub CountsSource : {A : Type 0} → Result A ClusterNo → ℕ → ℕ → Type 0
CountsSource (Ok answer) old new = new ≡ old
CountsSource (Err ReadFault) old new = Rose old new
CountsSource (Err why) old new = new ≡ old

-- the request was sent on; but where the sink failed it was broken off, and where memory was wanting, maybe nothing was
-- written
abbrev pub IsRequested : {A : Type 0} → Result A ClusterNo → List ℕ → Sent → Type 0
IsRequested (Ok answer) text sent = IsSentOn text sent
IsRequested (Err WriteFault) text sent = IsBrokenOff text sent
IsRequested (Err Memory) text sent = IsWrittenOut [] sent ⊎ IsSentOn text sent
IsRequested (Err why) text sent = IsSentOn text sent
