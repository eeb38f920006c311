-- Which refusal of a part is which of the whole.
use Rattle.std.specs.Prelude.{ℕ, List, codes}
use Rattle.line_stream.specs.declared.refusal.LineNo.{LineNo}
use Rattle.line_stream.specs.declared.refusal.LineNo.TheVariants as line
use Rattle.line_stream.specs.declared.asking.AskNo.{AskNo}
use Rattle.line_stream.specs.declared.asking.AskNo.TheVariants as ask
use Rattle.mirror_link.specs.declared.link_refusal.LinkNo.{LinkNo}
use Rattle.mirror_link.specs.declared.link_refusal.LinkNo.TheVariants.{BadHead, BadChunk, BadLine, Order, Gap, Refused, Told, CutShort, ReadFault, WriteFault, TooLong, OtherLog, Passed, Memory}

-- why there is no line
abbrev pub reading_refusal : LineNo → LinkNo
reading_refusal line.BadHead = BadHead
reading_refusal (line.Refused code) = Refused code
reading_refusal line.BadChunk = BadChunk
reading_refusal line.Overlong = BadLine
reading_refusal line.Unfinished = BadLine
reading_refusal line.Spent = TooLong
reading_refusal line.CutShort = CutShort
reading_refusal line.ReadFault = ReadFault
reading_refusal line.Memory = Memory

-- why a watch wasn't asked for
abbrev pub asking_refusal : AskNo → LinkNo
asking_refusal ask.WriteFault = WriteFault
asking_refusal ask.Memory = Memory

-- the bare name of a refusal, as it is printed
abbrev pub refusal_name : LinkNo → List ℕ
refusal_name BadHead = codes "BadHead"
refusal_name BadChunk = codes "BadChunk"
refusal_name BadLine = codes "BadLine"
refusal_name (Order last got) = codes "Order"
refusal_name (Gap last got) = codes "Gap"
refusal_name (Refused code) = codes "Refused"
refusal_name (Told code) = codes "Told"
refusal_name CutShort = codes "CutShort"
refusal_name ReadFault = codes "ReadFault"
refusal_name WriteFault = codes "WriteFault"
refusal_name TooLong = codes "TooLong"
refusal_name OtherLog = codes "OtherLog"
refusal_name (Passed to at) = codes "Passed"
refusal_name Memory = codes "Memory"
