-- What came of a request, and which faults were counted.
use Rattle.std.specs.Prelude.{◌≡◌, ◌⊎◌, ℕ, List, [], Result, Ok, Err}
use Rattle.edge_io.specs.Counts.{Rose}
use Rattle.edge_io.specs.Sent.{Sent, IsWrittenOut, IsSentOn, IsBrokenOff}
use Rattle.mirror_link.specs.declared.link_refusal.LinkNo.{LinkNo}
use Rattle.mirror_link.specs.declared.link_refusal.LinkNo.TheVariants.{ReadFault, WriteFault, Memory}

-- the request was sent on; but where the sink failed it was broken off, and where memory was wanting, maybe nothing was
-- written
abbrev pub IsAsked : {A : Type 0} → Result A LinkNo → List ℕ → Sent → Type 0
IsAsked (Ok answer) text sent = IsSentOn text sent
IsAsked (Err WriteFault) text sent = IsBrokenOff text sent
IsAsked (Err Memory) text sent = IsWrittenOut [] sent ⊎ IsSentOn text sent
IsAsked (Err why) text sent = IsSentOn text sent

-- the source's count of faults rose where the answer says so, and else stayed
abbrev pub CountsReads : {A : Type 0} → Result A LinkNo → ℕ → ℕ → Type 0
CountsReads (Ok answer) old new = new ≡ old
CountsReads (Err ReadFault) old new = Rose old new
CountsReads (Err why) old new = new ≡ old
