-- The rows that a selection has at a revision, and what transitions make of them.
use Rattle.std.specs.Prelude.{◌≡◌, ℕ, Bool, List, filter, fold, Option, Some, None, bytes_eq, if◌then◌else◌}
use Rattle.kube_meta.specs.declared.objects.Obj.{Obj}
use Rattle.kube_meta.specs.declared.resources.Resource.{Resource}
use Rattle.kube_meta.specs.Rows.{RowData, AreRising, row_with}
use Rattle.rev_log.specs.Logs.{Log}
use Rattle.rev_log.specs.States.{IsStateAt, row_at}
use Rattle.select_all.specs.declared.selection.Selection.{Selection}
use Rattle.select_all.specs.declared.selection.Kind.{Kind}
use Rattle.select_all.specs.declared.selection.Kind.TheVariants.{Added, Modified, Deleted}
use Rattle.select_all.specs.Selecting.{selects}
use Rattle.select_all.specs.Streams.{TransitionData}

-- of the rows of a state, those whose object passes a test
abbrev pub listing_by : (Obj → Bool) → List RowData → List RowData
listing_by test rows = filter (λ row. test row.obj) rows

-- or is selected
abbrev pub listing : Selection → List RowData → List RowData
listing s rows = listing_by (selects s) rows

-- The rows are those of the state at that revision whose object passes, in the order of their keys.
pub record IsListingBy (test : Obj → Bool) (log : Log) (resource : Resource) (at : ℕ) (rows : List RowData) : Type 0 where
  pub state : List RowData
  pub is_state : IsStateAt log resource at state
  pub selected : rows ≡ listing_by test state

-- The rows are the selected ones.
abbrev pub IsListing : Log → Selection → ℕ → List RowData → Type 0
IsListing log s at rows = IsListingBy (selects s) log s.resource at rows

-- ---- key by key

-- a row, if its object passes
abbrev pub shown_by : (Obj → Bool) → Option RowData → Option RowData
shown_by test None = None
shown_by test (Some row) = if test row.obj then Some row else None

-- In the order of their keys, the rows have at each key the row that stands there, if its object passes.
pub record IsListingByKey (test : Obj → Bool) (log : Log) (resource : Resource) (at : ℕ) (rows : List RowData) : Type 0 where
  pub rising : AreRising rows
  pub exact : (key : List ℕ) → row_with rows key ≡ shown_by test (row_at log resource at key)

-- ---- what an informer keeps

-- a transition of each kind but a deletion leaves a row
abbrev pub kept_by : Kind → RowData → Option RowData
kept_by Added row = Some row
kept_by Modified row = Some row
kept_by Deleted row = None

-- the row that a transition leaves: the told object at its revision, or none
abbrev pub row_left : TransitionData → Option RowData
row_left t = kept_by t.kind (record { obj = t.obj; rev = t.rev })

-- the row at a key after a transition of the object with that key, or of another one
abbrev pub row_told : List ℕ → Option RowData → TransitionData → Option RowData
row_told key row transition = if bytes_eq transition.obj.key key then row_left transition else row

-- the row at a key once all transitions are applied to listed rows
abbrev pub row_followed : List RowData → List TransitionData → List ℕ → Option RowData
row_followed rows transitions key = fold (row_told key) (row_with rows key) transitions
