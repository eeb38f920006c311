-- What the next line of a lawful body is to a mirror that follows.
use Rattle.std.specs.Prelude.{◌≡◌, ℕ, ◌<◌, ◌≤◌, Bool, true, false, not, ◌||◌, IsTrue, nat_lt, List, length, filter, fold, All, Option, None, IsSome}
use Rattle.std.specs.List.{list_any}
use Rattle.std.specs.declared.cmp.Ordering.TheVariants.{Less}
use Rattle.kube_meta.specs.declared.resources.Resource.{Resource}
use Rattle.kube_meta.specs.Rows.{RowData}
use Rattle.rev_log.specs.Logs.{Log, end_of}
use Rattle.rev_log.specs.States.{row_at}
use Rattle.select_all.specs.declared.selection.Kind.{Kind}
use Rattle.select_all.specs.declared.selection.Kind.TheVariants.{Added, Modified, Deleted}
use Rattle.select_all.specs.declared.selection.Selection.{Selection}
use Rattle.select_all.specs.Selecting.{selects}
use Rattle.select_all.specs.Listings.{row_told}
use Rattle.select_all.specs.Streams.{TransitionData, transition_cmp}
use Rattle.watch_rules.specs.declared.ask.WatchAsk.{WatchAsk}
use Rattle.watch_rules.specs.Bodies.{Line, Told, Bookmark, Closing, Lost}
use Rattle.watch_rules.specs.Starts.{is_from_state}
use Rattle.mirror_law.specs.Following.{kept_after}

-- ---- the revision of a line

-- a line is of no revision above this one; of a loss nothing is said
abbrev pub IsNotAbove : ℕ → Line → Type 0
IsNotAbove end (Told t) = t.rev ≤ end
IsNotAbove end (Bookmark at) = at ≤ end
IsNotAbove end (Closing at) = at ≤ end
IsNotAbove end (Lost at floor) = Unit {0}

-- ---- the opening is over

abbrev pub is_closing : Line → Bool
is_closing (Told t) = false
is_closing (Bookmark at) = false
is_closing (Closing at) = true
is_closing (Lost at floor) = false

-- no initial events are to come: the start has none, or the bookmark that ends them stands among the lines
abbrev pub IsPastOpening : WatchAsk → List Line → Type 0
IsPastOpening ask lines = IsTrue (not (is_from_state ask.start) || list_any is_closing lines)

-- ---- a line is taken

-- the row at a key before the revision of an event: what stands at the mirror's end, with what is kept of revisions
-- between applied
abbrev pub row_before : Log → Resource → List TransitionData → ℕ → List ℕ → Option RowData
row_before m resource kept rev key = fold (row_told key) (row_at m resource (end_of m) key) (filter (λ k. nat_lt k.rev rev) kept)

-- an object is added where none stood, and modified or deleted where one did
abbrev pub FitsKind : Kind → Option RowData → Type 0
FitsKind Added row = row ≡ None
FitsKind Modified row = IsSome row
FitsKind Deleted row = IsSome row

-- An event above the mirror's end. It stands behind all that is kept in the order of revisions and keys, so none of that
-- has its key at its revision; its object is selected, and its kind fits the row before it; and what is then kept makes
-- no more changes than a revision may have.
pub record IsTakenEvent (s : Selection) (m : Log) (kept : List TransitionData) (t : TransitionData) : Type 0 where
  pub above : end_of m < t.rev
  pub behind : All (λ k. transition_cmp k t ≡ Less) kept
  pub selected : IsTrue (selects s t.obj)
  pub fits : FitsKind t.kind (row_before m s.resource kept t.rev t.obj.key)
  pub few : length (kept_after kept (Told t)) ≤ 64

-- A bookmark that isn't below the mirror's end, nor below anything that is kept.
pub record IsTakenMark (m : Log) (kept : List TransitionData) (at : ℕ) : Type 0 where
  pub onward : end_of m ≤ at
  pub told : All (λ k. k.rev ≤ at) kept

-- A mirror takes the line, or it is the loss that ends the body.
abbrev pub IsTaken : Selection → Log → List TransitionData → Line → Type 0
IsTaken s m kept (Told t) = IsTakenEvent s m kept t
IsTaken s m kept (Bookmark at) = IsTakenMark m kept at
IsTaken s m kept (Closing at) = ⊥
IsTaken s m kept (Lost at floor) = Unit {0}
