-- How long a rest may take, and how many descriptors have to be left for an alarm.
use Rattle.std.specs.Prelude.{ℕ, ◌+◌, ◌<◌, min}

-- the milliseconds that poll is given: those that fit into it, some 24 days
abbrev pub poll_ms : ℕ → ℕ
poll_ms ms = min ms 2147483647

-- more than a thousand descriptors are left behind this one, the lowest free number, below the limit
abbrev pub HasRoom : ℕ → ℕ → Type 0
HasRoom fd limit = fd + 1000 < limit
