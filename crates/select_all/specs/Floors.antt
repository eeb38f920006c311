-- From which revisions on a window of the last changes still gives all that came after: floors, by counting.
use Rattle.std.specs.Prelude.{◌≡◌, ℕ, zero, suc, ◌+◌, ◌-◌, ◌<◌, ◌≤◌, ◌⊎◌, Bool, ◌&&◌, nat_lt, nat_le, sum_by, count_by, if◌then◌else◌}
use Rattle.kube_meta.specs.declared.resources.Resource.{Resource}
use Rattle.kube_meta.specs.Resources.{same_resource}
use Rattle.rev_log.specs.Changes.{RevisionData}
use Rattle.rev_log.specs.Logs.{Log, end_of, between}

-- how many changes of a resource a revision has
abbrev pub changes_in : Resource → RevisionData → ℕ
changes_in resource revision = count_by (λ change. same_resource change.resource resource) revision.changes

-- how many there are in the revisions above a and up to b
abbrev pub changes_between : Log → Resource → ℕ → ℕ → ℕ
changes_between log resource a b = sum_by (changes_in resource) (between log a b)

-- A window of `many` changes that ends with revision e is past v: that has a change of the resource, and at
-- least `many` more stand above it and up to e.
pub record IsPassed (log : Log) (resource : Resource) (many e v : ℕ) : Type 0 where
  pub changed : 0 < changes_between log resource (v - 1) v
  pub above : many ≤ changes_between log resource v e

-- A floor that a window may have whose size changes between low and high, and that was begun at `base`: base,
-- or a revision up to e that a window of `low` changes is past; and not below any that one of `high` is past.
pub record IsFloorOk (log : Log) (resource : Resource) (low high base e floor : ℕ) : Type 0 where
  pub from_base : base ≤ floor
  pub dropped : (floor ≡ base) ⊎ ((base < floor) × (floor ≤ e) × IsPassed log resource low e floor)
  pub keeps : (v : ℕ) → base < v → v ≤ e → IsPassed log resource high e v → v ≤ floor

-- The floor of a window of one size: the greatest revision above base and up to e that it is past, or base
-- where there is none.
abbrev pub IsRingFloor : Log → Resource → ℕ → ℕ → ℕ → ℕ → Type 0
IsRingFloor log resource many base e floor = IsFloorOk log resource many many base e floor

-- A watch at a may have lost revision n above it: the log's own floor reached n, or a window of `low` changes
-- of the whole log is past it.
pub record IsEvicted (log : Log) (log_floor low : ℕ) (resource : Resource) (a n : ℕ) : Type 0 where
  pub below : a < n
  pub cause : (n ≤ log_floor) ⊎ IsPassed log resource low (end_of log) n

-- ---- the same, computed

abbrev pub is_passed : Log → Resource → ℕ → ℕ → ℕ → Bool
is_passed log resource many e v = nat_lt 0 (changes_between log resource (v - 1) v) && nat_le many (changes_between log resource v e)

-- the greatest of the numbers from base + n down to base + 1 that passes the test, or base
abbrev pub greatest : (ℕ → Bool) → ℕ → ℕ → ℕ
greatest test base zero = base
greatest test base (suc n) = if test (base + suc n) then base + suc n else greatest test base n

abbrev pub ring_floor : Log → Resource → ℕ → ℕ → ℕ → ℕ
ring_floor log resource many base e = greatest (is_passed log resource many e) base (e - base)

-- base or a revision with a change, from the floor of a window of `high` changes up to that of one of `low`
pub record IsBetweenFloors (log : Log) (resource : Resource) (low high base e floor : ℕ) : Type 0 where
  pub candidate : (floor ≡ base) ⊎ (0 < changes_between log resource (floor - 1) floor)
  pub above : ring_floor log resource high base e ≤ floor
  pub below : floor ≤ ring_floor log resource low base e
