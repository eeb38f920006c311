-- Counts of faults. A count is a `u64`: it never falls, and it stays at its last value.
use Rattle.std.specs.Prelude.{ℕ, ◌+◌, ◌-◌, ◌≤◌, ◌<◌, ◌^◌, min}

-- the greatest value of a count
abbrev pub last_count : ℕ
last_count = 2 ^ 64 - 1

-- the count after one more fault
abbrev pub counted : ℕ → ℕ
counted faults = min (faults + 1) last_count

-- a fault was counted, and the count didn't fall; of a count that stands at its last value this is said too
abbrev pub Rose : ℕ → ℕ → Type 0
Rose old new = (old ≤ new) × (old < last_count → old < new)
