-- Logs of clusters: a revision has one change of a resource at most. So behind an event of a revision all is told up to
-- that revision, as if a bookmark at it stood there; a mirror commits it at once.
use Rattle.std.specs.Prelude.{◌≡◌, ℕ, ◌+◌, ◌≤◌, IsTrue, List, [], ◌∷◌, ◌++◌, length}
use Rattle.kube_meta.specs.declared.resources.Resource.{Resource}
use Rattle.rev_log.specs.Changes.{RevisionData}
use Rattle.rev_log.specs.Logs.{Log, IsLog, grown, end_of}
use Rattle.select_all.specs.declared.selection.Selection.{Selection}
use Rattle.select_all.specs.Streams.{TransitionData, events}
use Rattle.watch_rules.specs.declared.ask.WatchAsk.{WatchAsk}
use Rattle.watch_rules.specs.declared.starts.Start.TheVariants.{FromRevision}
use Rattle.watch_rules.specs.Bodies.{Line, Told, Bookmark, Closing, Lost, BeginsBody}
use Rattle.mirror_law.specs.Mirrors.{IsMirrorOf, AreToldBy}
use Rattle.mirror_law.specs.Following.{MovesOn, Follows}

-- The log of a cluster, of a resource: no revision has more than one change of it.
pub record IsCluster (peer : Log) (resource : Resource) : Type 0 where
  pub log : IsLog peer
  pub single : (r : ℕ) → length (events peer resource r (r + 1)) ≤ 1

-- A watch of the selection from a revision, with bookmarks.
pub record AsksChanges (s : Selection) (ask : WatchAsk) (from : ℕ) : Type 0 where
  pub selection : ask.selection ≡ s
  pub bookmarks : IsTrue ask.bookmarks
  pub start : ask.start ≡ FromRevision from

-- a line, and behind an event a bookmark at its revision
abbrev pub with_mark : Line → List Line
with_mark (Told t) = Told t ∷ Bookmark t.rev ∷ []
with_mark (Bookmark at) = Bookmark at ∷ []
with_mark (Closing at) = Closing at ∷ []
with_mark (Lost at floor) = Lost at floor ∷ []

-- lines, with such a bookmark behind each event
abbrev pub with_marks : List Line → List Line
with_marks [] = []
with_marks (line ∷ lines) = with_mark line ++ with_marks lines

-- ---- laws

-- the marks of lines and one more are those of the lines, and its own
abbrev pub MarksGoOn : Type 0
MarksGoOn = (lines : List Line) (line : Line) → with_marks (lines ++ line ∷ []) ≡ with_marks lines ++ with_mark line

-- lines that begin a body over a cluster's log begin one with these bookmarks too
abbrev pub BodiesTakeMarks : Type 0
BodiesTakeMarks =
    (peer : Log) (log_floor low from : ℕ) (s : Selection) (ask : WatchAsk) (lines : List Line) →
    IsCluster peer s.resource → AsksChanges s ask from → BeginsBody peer log_floor low ask from lines →
    BeginsBody peer log_floor low ask from (with_marks lines)

-- and so the next line is a next one behind such bookmarks
abbrev pub LinesGoOnBehindMarks : Type 0
LinesGoOnBehindMarks =
    (peer : Log) (log_floor low from : ℕ) (s : Selection) (ask : WatchAsk) (lines : List Line) (line : Line) →
    IsCluster peer s.resource → AsksChanges s ask from → BeginsBody peer log_floor low ask from (lines ++ line ∷ []) →
    BeginsBody peer log_floor low ask from (with_marks lines ++ line ∷ [])

-- what a mirror keeps and the event of the next line may be committed up to the event's own revision, in whole or in
-- part: any beginning of these revisions leaves a mirror
abbrev pub FollowingsCommitAtOnce : Type 0
FollowingsCommitAtOnce =
    (peer : Log) (log_floor low b from : ℕ) (s : Selection) (ask : WatchAsk) (lines : List Line) (m : Log) (kept : List TransitionData)
    (t : TransitionData) (more : List RevisionData) →
    IsCluster peer s.resource → AsksChanges s ask from → Follows peer s b from lines m kept →
    BeginsBody peer log_floor low ask from (lines ++ Told t ∷ []) → MovesOn (end_of m) (Told t) →
    AreToldBy s.resource (kept ++ t ∷ []) (end_of m) more → end_of (grown m more) ≤ t.rev →
    IsMirrorOf peer s b (grown m more)

-- an event above the mirror's end commits all revisions up to its own at once, and nothing is kept: the mirror follows
-- as if a bookmark stood behind it
abbrev pub FollowingsHearAtOnce : Type 0
FollowingsHearAtOnce =
    (peer : Log) (log_floor low b from : ℕ) (s : Selection) (ask : WatchAsk) (lines : List Line) (m : Log) (kept : List TransitionData)
    (t : TransitionData) (more : List RevisionData) →
    IsCluster peer s.resource → AsksChanges s ask from → Follows peer s b from lines m kept →
    BeginsBody peer log_floor low ask from (lines ++ Told t ∷ []) → MovesOn (end_of m) (Told t) →
    AreToldBy s.resource (kept ++ t ∷ []) (end_of m) more → end_of (grown m more) ≡ t.rev →
    Follows peer s b from (lines ++ with_mark (Told t)) (grown m more) []
