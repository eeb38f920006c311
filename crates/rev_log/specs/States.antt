-- The state of a resource at a revision: for each key the row that stands there, and the list of these rows in the order of their keys.
use Rattle.std.specs.Prelude.{◌≡◌, ℕ, Bool, ◌&&◌, List, Option, None, option_map, if◌then◌else◌, bytes_eq, fold}
use Rattle.kube_meta.specs.declared.resources.Resource.{Resource}
use Rattle.kube_meta.specs.declared.resources.Resource.TheVariants.{Pods}
use Rattle.kube_meta.specs.Resources.{same_resource}
use Rattle.kube_meta.specs.Rows.{RowData, AreRising, row_with}
use Rattle.rev_log.specs.Changes.{ChangeData, RevisionData}
use Rattle.rev_log.specs.Logs.{Log, upto}

-- whether the change is one of this resource and key
abbrev pub is_change_of : Resource → List ℕ → ChangeData → Bool
is_change_of resource key change = same_resource change.resource resource && bytes_eq change.key key

-- the row at a key after a change at a revision: the new object with that revision, or none
abbrev pub row_after : Resource → List ℕ → ℕ → Option RowData → ChangeData → Option RowData
row_after resource key revision row change =
    if is_change_of resource key change
    then option_map (λ obj. record { obj = obj; rev = revision }) change.new
    else row

-- the row at a key after a whole revision
abbrev pub row_next : Resource → List ℕ → Option RowData → RevisionData → Option RowData
row_next resource key row revision = fold (row_after resource key revision.rev) row revision.changes

-- the row at a key in the base, which has pods alone
abbrev pub row_in_base : List RowData → Resource → List ℕ → Option RowData
row_in_base base resource key = if same_resource resource Pods then row_with base key else None

-- the row of a resource at a key at a revision, if there is one
abbrev pub row_at : Log → Resource → ℕ → List ℕ → Option RowData
row_at log resource at key = fold (row_next resource key) (row_in_base log.base resource key) (upto log at)

-- the rows of a resource at a revision, in the order of their keys
pub record IsStateAt (log : Log) (resource : Resource) (at : ℕ) (rows : List RowData) : Type 0 where
  pub rising : AreRising rows
  pub exact : (key : List ℕ) → row_with rows key ≡ row_at log resource at key

-- there is no other list of them
abbrev pub StatesAreUnique : Type 0
StatesAreUnique =
    (log : Log) (resource : Resource) (at : ℕ) (rows others : List RowData) →
    IsStateAt log resource at rows → IsStateAt log resource at others → rows ≡ others
