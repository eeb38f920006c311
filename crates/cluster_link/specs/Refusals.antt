-- Which refusal of a part is which of the whole, and which answers are given again.
use Rattle.std.specs.Prelude.{ℕ, List, codes, Option, None, Some, Result, Ok, Err}
use Rattle.line_stream.specs.declared.refusal.LineNo.{LineNo}
use Rattle.line_stream.specs.declared.refusal.LineNo.TheVariants as line
use Rattle.line_stream.specs.declared.asking.AskNo.{AskNo}
use Rattle.line_stream.specs.declared.asking.AskNo.TheVariants as ask
use Rattle.mirror_log.specs.declared.take_refusal.TakeNo.{TakeNo}
use Rattle.mirror_log.specs.declared.take_refusal.TakeNo.TheVariants as take
use Rattle.mirror_log.specs.declared.refusal.MirrorNo.{MirrorNo}
use Rattle.mirror_log.specs.declared.refusal.MirrorNo.TheVariants as mirror
use Rattle.mirror_log.specs.declared.refusal.RebaseNo.{RebaseNo}
use Rattle.mirror_log.specs.declared.refusal.RebaseNo.TheVariants as rebase
use Rattle.cluster_link.specs.declared.heard.Heard.{Heard}
use Rattle.cluster_link.specs.declared.heard.Heard.TheVariants.{Line, Ended}
use Rattle.cluster_link.specs.declared.refusal.ClusterNo.{ClusterNo}
use Rattle.cluster_link.specs.declared.refusal.ClusterNo.TheVariants.{WriteFault, ReadFault, CutShort, Memory, BadReply, Refused, Told, BadLine, TooLong, Order, Behind, OtherValue, OtherLog, MixedPages, Passed}

-- why something wasn't asked for
abbrev pub request_refusal : AskNo → ClusterNo
request_refusal ask.WriteFault = WriteFault
request_refusal ask.Memory = Memory

-- why there is no reply, or no line of a stream
abbrev pub reply_refusal : LineNo → ClusterNo
reply_refusal line.BadHead = BadReply
reply_refusal (line.Refused code) = Refused code
reply_refusal line.BadChunk = BadReply
reply_refusal line.Overlong = TooLong
reply_refusal line.Unfinished = CutShort
reply_refusal line.Spent = TooLong
reply_refusal line.CutShort = CutShort
reply_refusal line.ReadFault = ReadFault
reply_refusal line.Memory = Memory

-- why a line isn't taken; no line is so far behind the last that it is a gap
abbrev pub take_refusal : TakeNo → ClusterNo
take_refusal take.BadLine = BadLine
take_refusal (take.Order last got) = Order last got
take_refusal (take.Gap last got) = BadLine

-- why it isn't heard by a mirror's log, which ends at this revision
abbrev pub log_refusal : ℕ → MirrorNo → ClusterNo
log_refusal to (mirror.Refused why) = take_refusal why
log_refusal to (mirror.Passed at) = Passed to at
log_refusal to mirror.Memory = Memory

-- why a mirror's log, which ends at `to`, isn't taken to a list at `at`
abbrev pub anew_refusal : ℕ → ℕ → RebaseNo → ClusterNo
anew_refusal to at (rebase.Behind end) = Behind to at
anew_refusal to at rebase.OtherLog = OtherLog
anew_refusal to at (rebase.Passed reached) = Passed to reached
anew_refusal to at rebase.Memory = Memory

-- the answer that is given again: each but that a line was heard
abbrev pub standing_answer : Result Heard ClusterNo → Option (Result Heard ClusterNo)
standing_answer (Ok (Line to)) = None
standing_answer (Ok (Ended to)) = Some (Ok (Ended to))
standing_answer (Err why) = Some (Err why)

-- and the one that stands once a mirror has asked for its stream
abbrev pub resumed_answer : Result (Unit {0}) ClusterNo → Option (Result Heard ClusterNo)
resumed_answer (Ok u) = None
resumed_answer (Err why) = Some (Err why)

-- the bare name of a refusal, as it is printed
abbrev pub cluster_refusal_name : ClusterNo → List ℕ
cluster_refusal_name WriteFault = codes "WriteFault"
cluster_refusal_name ReadFault = codes "ReadFault"
cluster_refusal_name CutShort = codes "CutShort"
cluster_refusal_name Memory = codes "Memory"
cluster_refusal_name BadReply = codes "BadReply"
cluster_refusal_name (Refused code) = codes "Refused"
cluster_refusal_name (Told code) = codes "Told"
cluster_refusal_name BadLine = codes "BadLine"
cluster_refusal_name TooLong = codes "TooLong"
cluster_refusal_name (Order last got) = codes "Order"
cluster_refusal_name (Behind to at) = codes "Behind"
cluster_refusal_name OtherValue = codes "OtherValue"
cluster_refusal_name OtherLog = codes "OtherLog"
cluster_refusal_name MixedPages = codes "MixedPages"
cluster_refusal_name (Passed to at) = codes "Passed"
