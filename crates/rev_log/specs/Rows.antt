-- What the map of rows holds while a state is computed.
use Rattle.std.specs.Prelude.{◌≡◌, ℕ, List, take, fold, Option, IfSome, nat_le, if◌then◌else◌}
use Rattle.std.specs.BTreeMap.{BTreeMap, IsOrdered, get}
use Rattle.std.specs.Cmp.Lexicographic.{slice_cmp}
use Rattle.std.specs.Ordering.{nat_cmp}
use Rattle.kube_meta.specs.declared.resources.Resource.{Resource}
use Rattle.kube_meta.specs.Rows.{RowData, key_of}
use Rattle.rev_log.specs.Changes.{RevisionData}
use Rattle.rev_log.specs.States.{row_after, row_next}

-- the map, in order, has at each key the row that stands there, which is one of that key
pub record Holds (rows : BTreeMap (List ℕ) RowData) (stands : List ℕ → Option RowData) : Type 0 where
  pub ordered : IsOrdered (slice_cmp nat_cmp) rows
  pub reads : (key : List ℕ) → get (slice_cmp nat_cmp) rows key ≡ stands key
  pub keyed : (key : List ℕ) → IfSome (stands key) (λ row. key_of row ≡ key)

-- a map that holds what stood before one step holds what stands after it
abbrev pub Follows : BTreeMap (List ℕ) RowData → BTreeMap (List ℕ) RowData → (List ℕ → Option RowData → Option RowData) → Type 0
Follows old new step = (stands : List ℕ → Option RowData) → Holds old stands → Holds new (λ key. step key (stands key))

-- a map of one resource's rows has made the first of a revision's changes
abbrev pub HasBegun : Resource → RevisionData → BTreeMap (List ℕ) RowData → BTreeMap (List ℕ) RowData → Type 0
HasBegun resource revision old new =
    (n : ℕ) × Follows old new (λ key row. fold (row_after resource key revision.rev) row (take n revision.changes))

-- the row at a key after a revision, if that is at most a number
abbrev pub row_next_upto : Resource → ℕ → List ℕ → Option RowData → RevisionData → Option RowData
row_next_upto resource at key row revision = if nat_le revision.rev at then row_next resource key row revision else row
