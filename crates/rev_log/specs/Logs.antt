-- A log as plain data. It is read by position: the revision at place i, from 0, is first + 1 + i, whatever number it carries.
use Rattle.std.specs.Prelude.{◌≡◌, ℕ, ◌+◌, ◌-◌, ◌^◌, ◌≤◌, List, [], ◌∷◌, ◌++◌, length, take, drop, All}
use Rattle.kube_meta.specs.Rows.{RowData, AreRising}
use Rattle.rev_front.specs.Passes.{FitFrom}
use Rattle.rev_log.specs.Changes.{RevisionData, IsRevision}

-- the revision of the base, the pods that stood then, and what was accepted since
pub record Log : Type 0 where
  pub first : ℕ
  pub base : List RowData
  pub revisions : List RevisionData

-- the log with more revisions
abbrev pub grown : Log → List RevisionData → Log
grown log more = record log { revisions = log.revisions ++ more }

-- the last revision
abbrev pub end_of : Log → ℕ
end_of log = log.first + length log.revisions

-- the revisions up to a number
abbrev pub upto : Log → ℕ → List RevisionData
upto log at = take (at - log.first) log.revisions

-- the revisions above one number and up to another
abbrev pub between : Log → ℕ → ℕ → List RevisionData
between log from to = drop (from - log.first) (upto log to)

-- each revision carries the number of its place
abbrev pub AreNumbered : ℕ → List RevisionData → Type 0
AreNumbered first [] = Unit {0}
AreNumbered first (revision ∷ more) = (revision.rev ≡ first + 1) × AreNumbered (first + 1) more

-- the revisions that may stand at a number of a log
abbrev pub Fits : ℕ → RevisionData → Type 0
Fits at revision = (revision.rev ≡ at) × IsRevision revision

-- the revision that stands where nothing changes
abbrev pub quiet_at : ℕ → RevisionData
quiet_at at = record { rev = at; changes = [] }

-- where each revision fits its place, each carries the number of its place, and is one
abbrev pub FittingLogsAreNumbered : Type 0
FittingLogsAreNumbered =
    (first : ℕ) (revisions : List RevisionData) → FitFrom Fits first revisions →
    AreNumbered first revisions × All IsRevision revisions

-- a log as it should be: sorted base rows that are not younger than the base, revisions that carry their numbers, none above 2 ^ 62
pub record IsLog (log : Log) : Type 0 where
  pub base_rising : AreRising log.base
  pub base_old : All (λ row. row.rev ≤ log.first) log.base
  pub numbered : AreNumbered log.first log.revisions
  pub revisions : All IsRevision log.revisions
  pub ends : end_of log ≤ 2 ^ 62
