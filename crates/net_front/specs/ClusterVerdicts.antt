-- What a server does about a cluster of which it mirrors a resource.
use Rattle.std.specs.Prelude.{ℕ, ◌==◌, List, Bool, true, false, not, Option, Some, None, if◌then◌else◌}
use Rattle.std.specs.Str.{bytes_eq}
use Rattle.cluster_link.specs.declared.refusal.ClusterNo.{ClusterNo}
use Rattle.cluster_link.specs.declared.refusal.ClusterNo.TheVariants.{WriteFault, ReadFault, CutShort, Memory, BadReply, Refused, Told, BadLine, TooLong, Order, Behind, OtherValue, OtherLog, MixedPages, Passed}
use Rattle.net_front.specs.declared.cluster_verdicts.Halt.{Halt}
use Rattle.net_front.specs.declared.cluster_verdicts.Halt.TheVariants as halt
use Rattle.net_front.specs.declared.cluster_verdicts.Turn.{Turn}
use Rattle.net_front.specs.declared.cluster_verdicts.Turn.TheVariants.{Onward, Again, Anew, End}
use Rattle.net_front.specs.declared.cluster_verdicts.Wanted.{Wanted}
use Rattle.net_front.specs.declared.cluster_verdicts.Wanted.TheVariants.{Stream, Objects}

-- behind a refused request for a stream, or a refused line. Where the cluster no longer keeps what comes next, or tells
-- an error, its objects are listed anew. What the connection, the cluster or memory may have brought on is tried again. A
-- line that is none would come again, and another log isn't followed: that is the end
abbrev pub stream_turn : ClusterNo → Turn
stream_turn (Refused code) = if code == 410 then Anew else Again
stream_turn (Told code) = Anew
stream_turn MixedPages = Anew
stream_turn WriteFault = Again
stream_turn ReadFault = Again
stream_turn CutShort = Again
stream_turn Memory = Again
stream_turn BadReply = Again
stream_turn BadLine = End
stream_turn TooLong = End
stream_turn (Order last got) = End
stream_turn (Behind to at) = End
stream_turn OtherValue = End
stream_turn OtherLog = End
stream_turn (Passed to at) = End

-- behind a refused list. Where the token of a page is too old, or the pages aren't of one revision, it is listed from
-- the first page again, as behind all that may pass. An item that is none, and a list of another log, end it
abbrev pub list_turn : ClusterNo → Turn
list_turn (Refused code) = Again
list_turn (Told code) = Again
list_turn MixedPages = Again
list_turn WriteFault = Again
list_turn ReadFault = Again
list_turn CutShort = Again
list_turn Memory = Again
list_turn BadReply = Again
list_turn BadLine = End
list_turn TooLong = End
list_turn (Order last got) = End
list_turn (Behind to at) = End
list_turn OtherValue = End
list_turn OtherLog = End
list_turn (Passed to at) = End

-- by what was asked for
abbrev pub turn_of : Wanted → ClusterNo → Turn
turn_of Stream why = stream_turn why
turn_of Objects why = list_turn why

-- whether the uid that was read is another one than that which was known; one that isn't known, or may not be read,
-- isn't
abbrev pub is_other_uid : Option (List ℕ) → Option (List ℕ) → Bool
is_other_uid (Some known) (Some read) = not (bytes_eq known read)
is_other_uid (Some known) None = false
is_other_uid None read = false

-- where a cluster doesn't say by which uid it goes: it is asked again, but what is no reply that tells one, as that of a
-- cluster that has none, says nothing
abbrev pub silent_turn : ClusterNo → Option Turn
silent_turn BadReply = None
silent_turn why = Some Again

-- before a cluster is asked for what comes next, by its uid: another cluster isn't followed
abbrev pub uid_turn : Option (List ℕ) → Option (List ℕ) → Option Turn
uid_turn known read = if is_other_uid known read then Some End else None

-- what follows from the cause for which no further line is heard; nothing, where the sessions have ended
abbrev pub turn_by : Halt → Option Turn
turn_by (halt.Ended end) = None
turn_by halt.Onward = Some Onward
turn_by (halt.Again why) = Some Again
turn_by (halt.Anew why) = Some Anew
turn_by (halt.End last) = Some End

-- the same, where there may be no cause
abbrev pub turn_after : Option Halt → Option Turn
turn_after None = None
turn_after (Some cause) = turn_by cause

-- what is asked for next, by what was asked for before: a stream goes on, or is begun behind a list; a list is asked
-- for where the cluster can't tell what comes next
abbrev pub wanted_next : Halt → Wanted → Wanted
wanted_next (halt.Ended end) before = before
wanted_next halt.Onward before = Stream
wanted_next (halt.Again why) before = before
wanted_next (halt.Anew why) before = Objects
wanted_next (halt.End last) before = before

-- whether it is asked for at once: a cluster that ended its stream as it was asked to, gave a list, or answered that it
-- can't tell what comes next, is there
abbrev pub is_at_once : Halt → Bool
is_at_once (halt.Ended end) = false
is_at_once halt.Onward = true
is_at_once (halt.Again why) = false
is_at_once (halt.Anew why) = true
is_at_once (halt.End last) = false
