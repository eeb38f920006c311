-- The draws of the generator: the high bits of the states of a linear congruential sequence modulo 2^64.
use Rattle.std.specs.Prelude.{ℕ, zero, suc, ◌+◌, ◌*◌, ◌/◌, ◌%◌, ◌^◌}

-- the state that follows another
unfoldable pub next : ℕ → ℕ
next state = (state * 6364136223846793005 + 1442695040888963407) % 2 ^ 64

-- the state that so many draws leave
unfoldable pub state_after : ℕ → ℕ → ℕ
state_after from zero = from
state_after from (suc draws) = next (state_after from draws)

-- what a state draws among so many values
unfoldable pub drawn : ℕ → ℕ → ℕ
drawn state values = state / 2 ^ 33 % values

-- the draw with this number, from 0 on
abbrev pub draw : ℕ → ℕ → ℕ → ℕ
draw from number values = drawn (state_after from (number + 1)) values
