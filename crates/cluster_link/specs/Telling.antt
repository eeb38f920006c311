-- What a mirror of a cluster hears over its connection, and what that leaves of it.
use Rattle.std.specs.Prelude.{◌≡◌, ◌⊎◌, ℕ, ◌^◌, ◌<◌, ◌≤◌, List, [], ◌∷◌, ◌++◌, Option, Some, None, Result, Ok, Err, IfOk, option_map}
use Rattle.rev_log.specs.Changes.{RevisionData}
use Rattle.rev_log.specs.Logs.{Log, end_of, grown}
use Rattle.select_all.specs.Streams.{TransitionData}
use Rattle.watch_rules.specs.declared.ask.WatchAsk.{WatchAsk}
use Rattle.watch_rules.specs.Bodies.{Line, Told, Bookmark, Closing, Lost, BeginsBody}
use Rattle.line_stream.specs.Readers.{GoesOn, ReadsText}
use Rattle.line_stream.specs.Answers.{Faults}
use Rattle.line_stream.specs.declared.refusal.LineNo.{LineNo}
use Rattle.line_stream.specs.declared.place.Place.TheVariants as place
use Rattle.watch_lines.specs.Laws.{as_read}
use Rattle.watch_lines.specs.Values.{TellsByValue, ReadsByValue}
use Rattle.watch_lines.specs.declared.peer_line.PeerLine.{PeerLine}
use Rattle.watch_lines.specs.declared.peer_line.PeerLine.TheVariants as peer
use Rattle.mirror_law.specs.Clusters.{IsCluster, AsksChanges}
use Rattle.mirror_law.specs.Mirrors.{IsMirrorOf, AreToldBy}
use Rattle.mirror_log.specs.Faults.{event_fault, mark_fault}
use Rattle.mirror_log.specs.MirrorLogs.{MirrorLogData, seen_to}
use Rattle.cluster_link.specs.Mirroring.{ClusterData, FollowsCluster, mirror_log}
use Rattle.cluster_link.specs.Refusals.{take_refusal, reply_refusal}
use Rattle.cluster_link.specs.declared.heard.Heard.{Heard}
use Rattle.cluster_link.specs.declared.heard.Heard.TheVariants as heard
use Rattle.cluster_link.specs.declared.refusal.ClusterNo.{ClusterNo}
use Rattle.cluster_link.specs.declared.refusal.ClusterNo.TheVariants as no

-- ---- what a mirror's log makes of a line, as it was read

-- its revision is at most the last one
abbrev pub IsInBounds : PeerLine → Type 0
IsInBounds (peer.Told kind obj rev) = rev ≤ 2 ^ 62
IsInBounds (peer.Bookmark at closing) = at ≤ 2 ^ 62
IsInBounds (peer.Error code) = Unit {0}

-- what is wrong first with what a line's text tells, if anything
abbrev pub told_fault : MirrorLogData → Option PeerLine → Option ClusterNo
told_fault m None = Some no.BadLine
told_fault m (Some (peer.Told kind obj rev)) =
    option_map take_refusal (event_fault m.selection m.most_gap m.log m.kept (record { kind = kind; obj = obj; rev = rev }))
told_fault m (Some (peer.Bookmark at closing)) = option_map take_refusal (mark_fault m.most_gap (end_of m.log) m.kept at closing)
told_fault m (Some (peer.Error code)) = Some (no.Told code)

-- the revision up to which a line of a cluster says that all was told: an event is alone in its own
abbrev pub whole_to : Line → ℕ
whole_to (Told t) = t.rev
whole_to (Bookmark at) = at
whole_to (Closing at) = at
whole_to (Lost at floor) = at

-- what was told and isn't committed, with a line
abbrev pub told_with : List TransitionData → Line → List TransitionData
told_with kept (Told t) = kept ++ t ∷ []
told_with kept (Bookmark at) = kept
told_with kept (Closing at) = kept
told_with kept (Lost at floor) = kept

-- the log grew by revisions of what was told, each of its own, the line with them
pub record GrowsBy (old : MirrorLogData) (line : Line) (log : Log) : Type 0 where
  pub more : List RevisionData
  pub log_is : log ≡ grown old.log more
  pub told_by : AreToldBy old.selection.resource (told_with old.kept line) (end_of old.log) more

-- A line was taken whole: all revisions are committed up to which it says that all was told, and nothing is kept.
pub record TakesWhole (old : MirrorLogData) (line : Line) (new : MirrorLogData) : Type 0 where
  pub selection : new.selection ≡ old.selection
  pub most_gap : new.most_gap ≡ old.most_gap
  pub grows : GrowsBy old line new.log
  pub reached : end_of new.log ≡ whole_to line
  pub kept : new.kept ≡ []

-- It was taken in part: some of these revisions are committed.
pub record TakesPart (old : MirrorLogData) (line : Line) (new : MirrorLogData) : Type 0 where
  pub selection : new.selection ≡ old.selection
  pub most_gap : new.most_gap ≡ old.most_gap
  pub grows : GrowsBy old line new.log
  pub within : end_of new.log ≤ whole_to line

-- what was read is this line of a body, and nothing is wrong with it
pub record IsToldAs (old : MirrorLogData) (found : Option PeerLine) (line : Line) : Type 0 where
  pub is : found ≡ Some (as_read line)
  pub no_fault : told_fault old found ≡ None

-- what is answered to it
abbrev pub HearsTold : MirrorLogData → Option PeerLine → Result ℕ ClusterNo → MirrorLogData → Type 0
HearsTold old found (Ok to) new = (line : Line) × IsToldAs old found line × TakesWhole old line new × (to ≡ end_of new.log)
HearsTold old found (Err (no.Passed to at)) new =
    (line : Line) × IsToldAs old found line × TakesPart old line new × (to ≡ end_of new.log) × (at ≡ seen_to new) × (to < at)
HearsTold old found (Err no.Memory) new = (line : Line) × IsToldAs old found line × TakesPart old line new
HearsTold old found (Err why) new = (told_fault old found ≡ Some why) × (new ≡ old)

-- and to its text
abbrev pub HearsTextOf : MirrorLogData → List ℕ → Result Heard ClusterNo → MirrorLogData → Type 0
HearsTextOf old text (Ok (heard.Line to)) new = (found : Option PeerLine) × ReadsByValue old.selection.resource text found × HearsTold old found (Ok to) new
HearsTextOf old text (Ok (heard.Ended to)) new = ⊥
HearsTextOf old text (Err why) new =
    ((why ≡ no.Memory) × (new ≡ old)) ⊎ ((found : Option PeerLine) × ReadsByValue old.selection.resource text found × HearsTold old found (Err why) new)

-- ---- what a mirror makes of a line

-- A call read the text of a line. Whatever the cluster's log and the lines before it, if the text tells the next line
-- of a lawful body that the mirror follows, it is a mirror of the cluster's log afterwards; and if it heard the line,
-- it follows.
pub record ReadsTold (old : ClusterData) (taken : List ℕ) (result : Result Heard ClusterNo) (new : ClusterData) : Type 0 where
  pub text : List ℕ
  pub read : ReadsText old.reading (old.reading.kept ++ taken) text new.reading
  pub follows : (peer : Log) (ask : WatchAsk) (log_floor low b from : ℕ) (lines : List Line) (line : Line) →
      TellsByValue old.selection.resource text (as_read line) → IsCluster peer old.selection.resource → AsksChanges old.selection ask from → FollowsCluster peer b from lines old →
      BeginsBody peer log_floor low ask from (lines ++ line ∷ []) →
      IsMirrorOf peer old.selection b new.log × IfOk result (λ heard. FollowsCluster peer b from (lines ++ line ∷ []) new)

-- what one call made of the line that it read: it was heard, whole or in part, or refused, or there was no memory for
-- it
pub record HearsLineOf (old : ClusterData) (taken : List ℕ) (result : Result Heard ClusterNo) (new : ClusterData) : Type 0 where
  pub reads : ReadsTold old taken result new
  pub hears : HearsTextOf (mirror_log old) reads.text result (mirror_log new)

-- ---- a call

-- the bytes have no line, for this reason
pub record LacksLine (old : ClusterData) (taken : List ℕ) (left : Option (List ℕ)) (why : ClusterNo) (new : ClusterData) : Type 0 where
  pub rests : mirror_log new ≡ mirror_log old
  pub fault : LineNo
  pub why_is : why ≡ reply_refusal fault
  pub on : GoesOn old.reading (old.reading.kept ++ taken) new.reading
  pub faults : Faults new.reading left fault

-- the stream ended, behind whole lines
pub record EndsStream (old : ClusterData) (taken : List ℕ) (to : ℕ) (new : ClusterData) : Type 0 where
  pub rests : mirror_log new ≡ mirror_log old
  pub to_is : to ≡ end_of new.log
  pub on : GoesOn old.reading (old.reading.kept ++ taken) new.reading
  pub over : new.reading.place ≡ place.Over
  pub whole : new.reading.part ≡ []

-- what one call answers that took these bytes, and what it leaves
abbrev pub HearsCluster : ClusterData → List ℕ → Option (List ℕ) → Result Heard ClusterNo → ClusterData → Type 0
HearsCluster old taken left (Ok (heard.Line to)) new = HearsLineOf old taken (Ok (heard.Line to)) new
HearsCluster old taken left (Ok (heard.Ended to)) new = EndsStream old taken to new
HearsCluster old taken left (Err why) new = LacksLine old taken left why new ⊎ HearsLineOf old taken (Err why) new

-- only the log, what is kept and the reading are others, and the log grew, if it changed
pub record HearsOnward (old new : ClusterData) : Type 0 where
  pub selection : new.selection ≡ old.selection
  pub most_gap : new.most_gap ≡ old.most_gap
  pub answer : new.answer ≡ old.answer
  pub more : List RevisionData
  pub log : new.log ≡ grown old.log more
