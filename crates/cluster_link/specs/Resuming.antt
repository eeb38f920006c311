-- How a mirror of a cluster asks for what comes behind its log.
use Rattle.std.specs.Prelude.{◌≡◌, ◌⊎◌, ℕ, List, [], Option, Result, Ok, Err}
use Rattle.line_stream.specs.ClusterRequests.{changes_request}
use Rattle.line_stream.specs.Heads.{BeginsChunks, RefusesResponse}
use Rattle.line_stream.specs.Readers.{ReaderData}
use Rattle.line_stream.specs.declared.refusal.LineNo.{LineNo}
use Rattle.rev_log.specs.Logs.{end_of}
use Rattle.cluster_link.specs.Mirroring.{ClusterData, unread}
use Rattle.cluster_link.specs.Refusals.{reply_refusal}
use Rattle.cluster_link.specs.declared.refusal.ClusterNo.{ClusterNo}
use Rattle.cluster_link.specs.declared.refusal.ClusterNo.TheVariants.{WriteFault, Memory}

-- a watch of its objects from the end of its log
abbrev pub stream_request : ClusterData → List ℕ
stream_request m = changes_request m.selection.resource m.selection.ns (end_of m.log)

-- what its reading is then: at the beginning of a chunked body; or the bytes begin none, for this reason, or it wasn't
-- asked for and nothing was taken
abbrev pub BeginsStream : List ℕ → Option (List ℕ) → Result (Unit {0}) ClusterNo → ReaderData → Type 0
BeginsStream bytes left (Ok u) reading = (after : List ℕ) × BeginsChunks bytes after × (reading ≡ record unread { kept = after })
BeginsStream bytes left (Err why) reading =
    ((fault : LineNo) × (why ≡ reply_refusal fault) × RefusesResponse bytes left fault)
    ⊎ (((why ≡ WriteFault) ⊎ (why ≡ Memory)) × (bytes ≡ []))
