-- Laws of floors.
use Rattle.std.specs.Prelude.{◌≡◌, ◌↔◌, ℕ, ◌<◌, ◌≤◌, max, List}
use Rattle.kube_meta.specs.declared.resources.Resource.{Resource}
use Rattle.rev_log.specs.Changes.{RevisionData}
use Rattle.rev_log.specs.Logs.{Log, grown, end_of}
use Rattle.select_all.specs.Floors.{changes_between, IsRingFloor, IsFloorOk, IsBetweenFloors, IsEvicted, ring_floor}

-- the computed floor of a window is its floor, and no other number is
abbrev pub FloorsAreGreatest : Type 0
FloorsAreGreatest =
    (log : Log) (resource : Resource) (many base e floor : ℕ) →
    IsRingFloor log resource many base e floor ↔ (floor ≡ ring_floor log resource many base e)

-- the floors of a window whose size changes are those between the floors of its greatest and of its least size
abbrev pub FloorsAreBetween : Type 0
FloorsAreBetween =
    (log : Log) (resource : Resource) (low high base e floor : ℕ) →
    IsFloorOk log resource low high base e floor ↔ IsBetweenFloors log resource low high base e floor

-- what the revisions up to the log's end, or up to where the count starts, have of changes stays as the log grows
abbrev pub CountsStay : Type 0
CountsStay =
    (log : Log) (more : List RevisionData) (resource : Resource) (a b : ℕ) → b ≤ max a (end_of log) →
    changes_between (grown log more) resource a b ≡ changes_between log resource a b

-- and so do the floors of a window that ends there
abbrev pub FloorsStay : Type 0
FloorsStay =
    (log : Log) (more : List RevisionData) (resource : Resource) (low high base e floor : ℕ) → e ≤ end_of log →
    IsFloorOk log resource low high base e floor ↔ IsFloorOk (grown log more) resource low high base e floor

-- a window begins with its base for a floor
abbrev pub FloorsBegin : Type 0
FloorsBegin =
    (log : Log) (resource : Resource) (low high base e : ℕ) → e ≤ base → IsFloorOk log resource low high base e base

-- where the window goes on to a later end with any one size from low to high, the floor of what it then drops, which
-- is counted from the floor that it had, is one again
abbrev pub FloorsGoOn : Type 0
FloorsGoOn =
    (log : Log) (resource : Resource) (low high many base e later floor next : ℕ) → low ≤ many → many ≤ high → e ≤ later →
    IsFloorOk log resource low high base e floor → IsRingFloor log resource many floor later next →
    IsFloorOk log resource low high base later next

-- revisions without a change of the resource leave the floor
abbrev pub FloorsWait : Type 0
FloorsWait =
    (log : Log) (resource : Resource) (low high base e later floor : ℕ) → e ≤ later → changes_between log resource e later ≡ 0 →
    IsFloorOk log resource low high base e floor → IsFloorOk log resource low high base later floor

-- a position below the floor of a window that ends within the log and began at a base up to the log's own floor is evicted
abbrev pub FloorsEvict : Type 0
FloorsEvict =
    (log : Log) (log_floor : ℕ) (resource : Resource) (low high base e floor a : ℕ) → e ≤ end_of log → base ≤ log_floor →
    IsFloorOk log resource low high base e floor → a < floor → IsEvicted log log_floor low resource a floor

-- what is evicted stays so as the log grows and its floor rises
abbrev pub EvictionsStay : Type 0
EvictionsStay =
    (log : Log) (more : List RevisionData) (log_floor later_floor low : ℕ) (resource : Resource) (a n : ℕ) → log_floor ≤ later_floor →
    IsEvicted log log_floor low resource a n → IsEvicted (grown log more) later_floor low resource a n
