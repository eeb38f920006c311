-- The revisions between two lists of rows, of which one stands at a revision of a log, and the other at a later one.
use Rattle.std.specs.Prelude.{◌≡◌, ℕ, ◌+◌, ◌-◌, ◌*◌, ◌<◌, ◌≤◌, not, nat_lt, nat_eq, List, ◌∷◌, ◌++◌, length, filter, All, Option, Some, None, is_some}
use Rattle.kube_meta.specs.declared.resources.Resource.{Resource}
use Rattle.kube_meta.specs.Rows.{RowData, key_of, row_with}
use Rattle.rev_log.specs.Changes.{RevisionData}
use Rattle.rev_log.specs.Logs.{Log, grown, end_of}
use Rattle.rev_log.specs.States.{IsStateAt}
use Rattle.up_store.specs.Hearing.{AreAscending, filled}

-- the rows that are younger than a revision
abbrev pub younger : ℕ → List RowData → List RowData
younger from rows = filter (λ row. nat_lt from row.rev) rows

-- those of one revision
abbrev pub written_at : ℕ → List RowData → List RowData
written_at rev rows = filter (λ row. nat_eq row.rev rev) rows

-- the old rows that are gone: no row has their key
abbrev pub gone : List RowData → List RowData → List RowData
gone old rows = filter (λ row. not (is_some (row_with rows (key_of row)))) old

-- the row stands among the old ones, the very same
abbrev pub IsKept : List RowData → RowData → Type 0
IsKept old row = row_with old (key_of row) ≡ Some row

-- all rows that aren't younger than a revision do
abbrev pub AreKept : ℕ → List RowData → List RowData → Type 0
AreKept from old rows = All (λ row. row.rev ≤ from → IsKept old row) rows

-- the row is the first of these that isn't younger than a revision and doesn't
pub record IsFirstOther (from : ℕ) (old rows : List RowData) (row : RowData) : Type 0 where
  pub before : List RowData
  pub behind : List RowData
  pub rows_are : rows ≡ before ++ row ∷ behind
  pub same : AreKept from old before
  pub written : row.rev ≤ from
  pub differs : ¬ IsKept old row

-- it is, or there is none
abbrev pub FindsOther : ℕ → List RowData → List RowData → Option RowData → Type 0
FindsOther from old rows (Some row) = IsFirstOther from old rows row
FindsOther from old rows None = AreKept from old rows

-- Both lists may be of one log: what wasn't written since stands as it stood, no revision has more than 64 changes, and
-- the revisions between have room for all that was written or is gone.
pub record MayBeOfOneLog (from : ℕ) (old : List RowData) (to : ℕ) (rows : List RowData) : Type 0 where
  pub kept : AreKept from old rows
  pub few : (rev : ℕ) → from < rev → length (written_at rev rows) ≤ 64
  pub room : length (younger from rows) + length (gone old rows) ≤ 64 * (to - from)

-- These revisions follow a revision at which the one list stands: their numbers rise up to the other one, and each has a
-- change, of one resource alone. Once they are there, and between them and behind them those at which nothing changes, the other
-- list stands.
pub record Bridges (resource : Resource) (from : ℕ) (old : List RowData) (to : ℕ) (rows : List RowData) (revisions : List RevisionData) : Type 0 where
  pub rise : AreAscending from revisions to
  pub change : All (λ revision. 0 < length revision.changes) revisions
  pub alone : All (λ revision. All (λ change. change.resource ≡ resource) revision.changes) revisions
  pub leads : (log : Log) → end_of log ≡ from → IsStateAt log resource from old → IsStateAt (grown log (filled from revisions to)) resource to rows
