-- How the lines of a body are walked whose log isn't known: by a log of one's own, which has exactly what they told.
use Rattle.std.specs.Prelude.{◌≡◌, ℕ, zero, suc, ◌+◌, ◌-◌, ◌^◌, ◌<◌, ◌≤◌, Bool, IsTrue, List, [], ◌∷◌, ◌++◌, length, map, fold, All, Option, Some, None, IfSome, IsSomeAnd}
use Rattle.std.specs.List.Sorted.{IsStrictlySortedBy}
use Rattle.std.specs.declared.cmp.Ordering.TheVariants.{Less}
use Rattle.kube_meta.specs.declared.objects.Obj.{Obj}
use Rattle.kube_meta.specs.declared.resources.Resource.{Resource}
use Rattle.kube_meta.specs.Rows.{RowData}
use Rattle.rev_log.specs.Changes.{RevisionData}
use Rattle.rev_log.specs.Logs.{Log, IsLog, grown, end_of}
use Rattle.rev_log.specs.States.{row_at}
use Rattle.select_all.specs.declared.selection.Selection.{Selection}
use Rattle.select_all.specs.declared.selection.Kind.{Kind}
use Rattle.select_all.specs.declared.selection.Kind.TheVariants.{Added, Modified, Deleted}
use Rattle.select_all.specs.Selecting.{selects}
use Rattle.select_all.specs.Listings.{IsListing, row_told}
use Rattle.select_all.specs.Streams.{Standing, TransitionData, transitions, transition_cmp}
use Rattle.watch_rules.specs.declared.ask.WatchAsk.{WatchAsk}
use Rattle.watch_rules.specs.declared.starts.Start.TheVariants.{FromRevision}
use Rattle.watch_rules.specs.Bodies.{Line, Told, Bookmark, Closing, TellsBody, BeginsBody, AreOpen, told_in}
use Rattle.mirror_law.specs.Mirrors.{change_told, AreToldBy, IsMirrorOf}
use Rattle.mirror_law.specs.Following.{kept_after, Follows}
use Rattle.mirror_law.specs.Taking.{row_before, IsTakenMark}
use Rattle.body_check.specs.Turns.{FitsRow}

-- an event at a revision, where these rows stood before
pub record IsFitting (test : Obj → Bool) (rows : Standing) (rev : ℕ) (t : TransitionData) : Type 0 where
  pub number : t.rev ≡ rev
  pub selected : IsTrue (test t.obj)
  pub fits : FitsRow t.kind t.obj (rows t.obj.key)

-- the events of one revision, where these rows stood before
pub record FitAtOnce (test : Obj → Bool) (rows : Standing) (rev : ℕ) (kept : List TransitionData) : Type 0 where
  pub each : All (IsFitting test rows rev) kept
  pub sorted : IsStrictlySortedBy transition_cmp kept
  pub few : length kept ≤ 64

-- the revision with this number, of what was told at it
abbrev pub revision_told : Resource → ℕ → List TransitionData → RevisionData
revision_told resource at kept = record { rev = at; changes = map (change_told resource) kept }

-- A log of one's own: it has the first list, and of the resource has had nothing since but what is selected.
pub record IsOwn (s : Selection) (from : ℕ) (rows : List RowData) (m : Log) : Type 0 where
  pub log : IsLog m
  pub begun : m.first ≤ from
  pub reached : from ≤ end_of m
  pub listing : IsListing m s from rows
  pub shown : (r : ℕ) (key : List ℕ) → from ≤ r → r ≤ end_of m → IfSome (row_at m s.resource r key) (λ row. IsTrue (selects s row.obj))

-- What becomes of it by one more revision.
pub record GrowsOn (s : Selection) (from : ℕ) (rows : List RowData) (m : Log) (kept : List TransitionData) (next : Log) : Type 0 where
  pub own : IsOwn s from rows next
  pub end : end_of next ≡ end_of m + 1
  pub tells : transitions next s (end_of m) (end_of m + 1) ≡ kept
  pub stands : (key : List ℕ) → row_at next s.resource (end_of m + 1) key ≡ fold (row_told key) (row_at m s.resource (end_of m) key) kept

abbrev pub OwnLogsGoOn : Type 0
OwnLogsGoOn =
    (s : Selection) (from : ℕ) (rows : List RowData) (m : Log) (kept : List TransitionData) → IsOwn s from rows m → end_of m + 1 ≤ 2 ^ 62 →
    FitAtOnce (selects s) (row_at m s.resource (end_of m)) (end_of m + 1) kept →
    GrowsOn s from rows m kept (grown m (revision_told s.resource (end_of m + 1) kept ∷ []))

-- ---- what was told since

-- So many more revisions, at the first of which all was told that is kept.
pub record IsSettled (s : Selection) (from : ℕ) (rows : List RowData) (m : Log) (kept : List TransitionData) (n : ℕ) (more : List RevisionData) : Type 0 where
  pub own : IsOwn s from rows (grown m more)
  pub count : length more ≡ n
  pub told : AreToldBy s.resource kept (end_of m) more
  pub tells : transitions (grown m more) s (end_of m) (end_of m + n) ≡ kept
  pub stands : (r : ℕ) (key : List ℕ) → end_of m < r → r ≤ end_of m + n →
      row_at (grown m more) s.resource r key ≡ fold (row_told key) (row_at m s.resource (end_of m) key) kept

abbrev pub OwnLogsSettle : Type 0
OwnLogsSettle =
    (s : Selection) (from : ℕ) (rows : List RowData) (m : Log) (kept : List TransitionData) (n : ℕ) → IsOwn s from rows m → end_of m + suc n ≤ 2 ^ 62 →
    FitAtOnce (selects s) (row_at m s.resource (end_of m)) (end_of m + 1) kept →
    (more : List RevisionData) × IsSettled s from rows m kept (suc n) more

-- ---- the walk

-- Some log has the first list.
pub record HasFirst (s : Selection) (from : ℕ) (rows : List RowData) (log : Log) : Type 0 where
  pub is : IsLog log
  pub begun : log.first ≤ from
  pub reached : from ≤ end_of log
  pub listing : IsListing log s from rows

-- The lines are walked by a log of one's own, which tells them, but for those of the next revision, which are kept. Each
-- log that has the first list, and of which the lines begin a body, is mirrored so.
pub record IsWalked (ask : WatchAsk) (from : ℕ) (rows : List RowData) (lines : List Line) (m : Log) (kept : List TransitionData) : Type 0 where
  pub own : IsOwn ask.selection from rows m
  pub are : FitAtOnce (selects ask.selection) (row_at m ask.selection.resource (end_of m)) (end_of m + 1) kept
  pub heard : List Line
  pub lines_are : lines ≡ heard ++ map Told kept
  pub free : AreOpen heard
  pub body : TellsBody m 0 0 ask from heard (end_of m)
  pub peers : (peer : Log) (log_floor low : ℕ) → HasFirst ask.selection from rows peer → BeginsBody peer log_floor low ask from lines →
      Follows peer ask.selection from from lines m kept

-- The event may come next.
pub record IsTakenNext (s : Selection) (m : Log) (kept : List TransitionData) (t : TransitionData) : Type 0 where
  pub above : end_of m < t.rev
  pub behind : All (λ k. transition_cmp k t ≡ Less) kept
  pub selected : IsTrue (selects s t.obj)
  pub fits : FitsRow t.kind t.obj (row_before m s.resource kept t.rev t.obj.key)
  pub few : length (kept_after kept (Told t)) ≤ 64
  pub within : t.rev ≤ 2 ^ 62

-- ---- laws

abbrev pub WalksBegin : Type 0
WalksBegin =
    (ask : WatchAsk) (from : ℕ) (rows : List RowData) (m : Log) → ask.start ≡ FromRevision from → IsOwn ask.selection from rows m → end_of m ≡ from →
    IsWalked ask from rows [] m []

-- the revision up to which lines were told
abbrev pub reach_of : Log → List TransitionData → ℕ
reach_of m [] = end_of m
reach_of m (t ∷ kept) = end_of m + 1

-- What becomes of a walk by a line: it has come to a revision, and from where it was up to there what stood stands.
pub record WalksTo (ask : WatchAsk) (from : ℕ) (rows : List RowData) (lines : List Line) (m : Log) (kept : List TransitionData) (line : Line) (at : ℕ) (more : List RevisionData) (later : List TransitionData) : Type 0 where
  pub walked : IsWalked ask from rows (lines ++ line ∷ []) (grown m more) later
  pub end : end_of (grown m more) ≡ at
  pub quiet : (r : ℕ) (key : List ℕ) → reach_of m kept ≤ r → r ≤ at →
      row_at (grown m more) ask.selection.resource r key ≡ fold (row_told key) (row_at m ask.selection.resource (end_of m) key) kept

-- an event takes all of the revisions before its own, and is kept; it does to what stands what it tells
abbrev pub WalksHear : Type 0
WalksHear =
    (ask : WatchAsk) (from : ℕ) (rows : List RowData) (lines : List Line) (m : Log) (kept : List TransitionData) (t : TransitionData) →
    IsWalked ask from rows lines m kept → IsTakenNext ask.selection m kept t →
    (more : List RevisionData) × WalksTo ask from rows lines m kept (Told t) (t.rev - 1) more (kept_after kept (Told t))
    × ((key : List ℕ) → fold (row_told key) (row_at (grown m more) ask.selection.resource (end_of (grown m more)) key) (kept_after kept (Told t))
    ≡ row_told key (fold (row_told key) (row_at m ask.selection.resource (end_of m) key) kept) t)

-- a bookmark takes all of the revisions up to its own
abbrev pub WalksMark : Type 0
WalksMark =
    (ask : WatchAsk) (from : ℕ) (rows : List RowData) (lines : List Line) (m : Log) (kept : List TransitionData) (at : ℕ) →
    IsWalked ask from rows lines m kept → IsTakenMark m kept at → IsTrue ask.bookmarks → at ≤ 2 ^ 62 →
    (more : List RevisionData) × WalksTo ask from rows lines m kept (Bookmark at) at more []

-- each next line of a log that has the first list is one that the walk takes, or the loss at the end
abbrev pub WalksTake : Type 0
WalksTake =
    (ask : WatchAsk) (from : ℕ) (rows : List RowData) (lines : List Line) (m : Log) (kept : List TransitionData) (t : TransitionData) (peer : Log) (log_floor low : ℕ) →
    ask.start ≡ FromRevision from → IsWalked ask from rows lines m kept → HasFirst ask.selection from rows peer → BeginsBody peer log_floor low ask from (lines ++ Told t ∷ []) →
    IsTakenNext ask.selection m kept t

abbrev pub WalksTakeMarks : Type 0
WalksTakeMarks =
    (ask : WatchAsk) (from : ℕ) (rows : List RowData) (lines : List Line) (m : Log) (kept : List TransitionData) (at : ℕ) (peer : Log) (log_floor low : ℕ) →
    ask.start ≡ FromRevision from → IsWalked ask from rows lines m kept → HasFirst ask.selection from rows peer → BeginsBody peer log_floor low ask from (lines ++ Bookmark at ∷ []) →
    IsTakenMark m kept at × IsTrue ask.bookmarks × (at ≤ 2 ^ 62)

abbrev pub WalksTakeNoClosing : Type 0
WalksTakeNoClosing =
    (ask : WatchAsk) (from : ℕ) (rows : List RowData) (lines : List Line) (m : Log) (kept : List TransitionData) (at : ℕ) (peer : Log) (log_floor low : ℕ) →
    ask.start ≡ FromRevision from → IsWalked ask from rows lines m kept → HasFirst ask.selection from rows peer → ¬ BeginsBody peer log_floor low ask from (lines ++ Closing at ∷ [])

-- ---- the end

-- The log of one's own, with what was kept, tells all lines; each log that has the first list and tells them, and behind
-- them lines that tell of no object, has come at least as far, and is mirrored.
pub record IsEnded (ask : WatchAsk) (from : ℕ) (rows : List RowData) (lines : List Line) (log : Log) : Type 0 where
  pub own : IsOwn ask.selection from rows log
  pub body : TellsBody log 0 0 ask from lines (end_of log)
  pub free : AreOpen lines
  pub peers : (peer : Log) (log_floor low : ℕ) (tail : List Line) (p : ℕ) → HasFirst ask.selection from rows peer → told_in tail ≡ [] →
      TellsBody peer log_floor low ask from (lines ++ tail) p → (end_of log ≤ p) × (p ≤ end_of peer) × IsMirrorOf peer ask.selection from log

-- what is kept is made a revision
pub record EndsWalk (ask : WatchAsk) (from : ℕ) (rows : List RowData) (lines : List Line) (m : Log) (kept : List TransitionData) (log : Log) : Type 0 where
  pub ended : IsEnded ask from rows lines log
  pub more : List RevisionData
  pub grows : log ≡ grown m more
  pub end : end_of log ≡ reach_of m kept
  pub stands : (key : List ℕ) → row_at log ask.selection.resource (end_of log) key ≡ fold (row_told key) (row_at m ask.selection.resource (end_of m) key) kept

abbrev pub WalksEnd : Type 0
WalksEnd =
    (ask : WatchAsk) (from : ℕ) (rows : List RowData) (lines : List Line) (m : Log) (kept : List TransitionData) →
    ask.start ≡ FromRevision from → IsWalked ask from rows lines m kept → reach_of m kept ≤ 2 ^ 62 →
    (log : Log) × EndsWalk ask from rows lines m kept log
