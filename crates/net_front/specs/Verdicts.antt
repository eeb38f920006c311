-- What a mirror does about its peer.
use Rattle.std.specs.Prelude.{◌==◌, Option, Some, None, if◌then◌else◌}
use Rattle.mirror_link.specs.declared.link_refusal.LinkNo.{LinkNo}
use Rattle.mirror_link.specs.declared.link_refusal.LinkNo.TheVariants.{BadHead, BadChunk, BadLine, Order, Gap, Refused, Told, CutShort, ReadFault, WriteFault, TooLong, OtherLog, Passed, Memory}
use Rattle.net_front.specs.declared.verdicts.Next.{Next}
use Rattle.net_front.specs.declared.verdicts.Next.TheVariants.{Again, Anew, End}
use Rattle.net_front.specs.declared.verdicts.Stop.{Stop}
use Rattle.net_front.specs.declared.verdicts.Stop.TheVariants as stop
use Rattle.net_front.specs.declared.standing.Standing.{Standing}
use Rattle.net_front.specs.declared.standing.Standing.TheVariants.{Reached, Behind, Unknown}

-- behind a refused line, or a refused request for the stream. Where the peer no longer keeps what comes next the mirror
-- begins anew. What the connection, the peer or memory may have brought on is tried again. A line that was refused
-- would come again, and a log that was passed by another door isn't the mirror's alone: it follows no more
abbrev pub line_next : LinkNo → Next
line_next (Refused code) = if code == 410 then Anew else Again
line_next (Told code) = Anew
line_next (Gap last got) = Anew
line_next BadHead = Again
line_next CutShort = Again
line_next ReadFault = Again
line_next WriteFault = Again
line_next Memory = Again
line_next BadChunk = End
line_next BadLine = End
line_next (Order last got) = End
line_next TooLong = End
line_next OtherLog = End
line_next (Passed to at) = End

-- behind a refused opening: a peer that refused may give one later, and one that is too far ahead stays so
abbrev pub opening_next : LinkNo → Next
opening_next (Refused code) = Again
opening_next (Told code) = Again
opening_next (Gap last got) = End
opening_next BadHead = line_next BadHead
opening_next CutShort = line_next CutShort
opening_next ReadFault = line_next ReadFault
opening_next WriteFault = line_next WriteFault
opening_next Memory = line_next Memory
opening_next BadChunk = line_next BadChunk
opening_next BadLine = line_next BadLine
opening_next (Order last got) = line_next (Order last got)
opening_next TooLong = line_next TooLong
opening_next OtherLog = line_next OtherLog
opening_next (Passed to at) = line_next (Passed to at)

-- before a peer is asked for what comes next. One that has reached the mirror's end is asked; one that hasn't has
-- another log under the same numbers, which is never followed; one that doesn't say is asked again later
abbrev pub standing_next : Standing → Option Next
standing_next Reached = None
standing_next Behind = Some End
standing_next Unknown = Some Again

-- what follows from the cause for which no further line is heard; nothing, where the sessions have ended
abbrev pub next_by : Stop → Option Next
next_by (stop.Ended end) = None
next_by (stop.Over why) = Some Again
next_by (stop.Missed why) = Some Anew
next_by (stop.Lost lost) = Some End

-- the same, where there may be no cause
abbrev pub next_after : Option Stop → Option Next
next_after None = None
next_after (Some stop) = next_by stop
