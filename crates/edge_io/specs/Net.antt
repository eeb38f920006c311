-- How the answers of a listener and of a net move their counts.
use Rattle.std.specs.Prelude.{ℕ, ◌+◌, min, Option, None, Some, Result, Ok, Err}

-- one, where a connection was handed out
abbrev pub handed_out : {C E : Type 0} → Result (Option C) E → ℕ
handed_out (Ok (Some connection)) = 1
handed_out (Ok None) = 0
handed_out (Err e) = 0

-- one, where the call failed
abbrev pub failures : {A E : Type 0} → Result A E → ℕ
failures (Ok answer) = 0
failures (Err e) = 1

-- one, where there were faults
abbrev pub faulty : ℕ → ℕ
faulty faults = min faults 1

-- one, where there were faults at either of two ends
abbrev pub faulty_ends : ℕ → ℕ → ℕ
faulty_ends faults others = min (faults + others) 1
