-- Laws of logs, and of what stands at their revisions.
use Rattle.std.specs.Prelude.{◌≡◌, ◌↔◌, ℕ, ◌-◌, ◌^◌, ◌≤◌, nat_le, ◌&&◌, List, All, Option, length, filter, flat_map, option_map}
use Rattle.std.specs.List.{slice_get}
use Rattle.std.specs.Option.{option_map_or}
use Rattle.kube_meta.specs.declared.resources.Resource.{Resource}
use Rattle.kube_meta.specs.Rows.{RowData, AreRising}
use Rattle.rev_front.specs.Passes.{FitFrom}
use Rattle.rev_log.specs.Changes.{ChangeData, RevisionData, IsRevision}
use Rattle.rev_log.specs.Logs.{Log, grown, end_of, AreNumbered, Fits, IsLog}
use Rattle.rev_log.specs.States.{is_change_of, row_in_base, row_at, IsStateAt}

-- revisions of which each fits its place, from base rows as they should be, are a log
abbrev pub FittingLogsAreLogs : Type 0
FittingLogsAreLogs =
    (log : Log) → FitFrom Fits log.first log.revisions → AreRising log.base → All (λ row. row.rev ≤ log.first) log.base →
    end_of log ≤ 2 ^ 62 → IsLog log

-- what stands at a revision that a log has reached stays as the log grows: the row at each key, and the state
abbrev pub RowsStay : Type 0
RowsStay =
    (log : Log) (more : List RevisionData) (resource : Resource) (at : ℕ) (key : List ℕ) → at ≤ end_of log →
    row_at (grown log more) resource at key ≡ row_at log resource at key

abbrev pub StatesStay : Type 0
StatesStay =
    (log : Log) (more : List RevisionData) (resource : Resource) (at : ℕ) (rows : List RowData) → at ≤ end_of log →
    IsStateAt log resource at rows ↔ IsStateAt (grown log more) resource at rows

-- each resource has a state at each revision
abbrev pub StatesExist : Type 0
StatesExist =
    (log : Log) → All IsRevision log.revisions → (resource : Resource) (at : ℕ) → (rows : List RowData) × IsStateAt log resource at rows

-- ---- the last change of an object

-- all changes of a log, in their order
abbrev pub changes_in : Log → List ChangeData
changes_in log = flat_map (λ revision. revision.changes) log.revisions

-- those of an object at or below a revision
abbrev pub changes_upto : Log → Resource → ℕ → List ℕ → List ChangeData
changes_upto log resource at key = filter (λ change. nat_le change.rev at && is_change_of resource key change) (changes_in log)

-- the last of some changes, if there is one
abbrev pub last_of : List ChangeData → Option ChangeData
last_of changes = slice_get changes (length changes - 1)

-- the row that a change leaves: the new object with the change's revision, or none
abbrev pub row_of : ChangeData → Option RowData
row_of change = option_map (λ obj. record { obj = obj; rev = change.rev }) change.new

-- the row at a key is that of the last change of its object at or below the revision, and else the base row
abbrev pub LastChangesDecide : Type 0
LastChangesDecide =
    (log : Log) → AreNumbered log.first log.revisions → All IsRevision log.revisions → (resource : Resource) (at : ℕ) (key : List ℕ) →
    row_at log resource at key ≡ option_map_or row_of (last_of (changes_upto log resource at key)) (row_in_base log.base resource key)
