-- When a watch has something to do by itself, how long it rests until then, and when it is asked to stop. Times are
-- milliseconds that fit into 64 bits.
use Rattle.std.specs.Prelude.{ℕ, ◌+◌, ◌-◌, min, nat_le, nat_lt, Bool, false, ◌||◌, Option, Some, None, if◌then◌else◌}
use Rattle.edge_io.specs.Counts.{last_count}

-- the time so long behind another
abbrev pub ms_after : ℕ → ℕ → ℕ
ms_after at ms = min (at + ms) last_count

-- a quiet turn at `now` wrote a bookmark: one is wanted each so often, and the last came at `mark`
abbrev pub is_marked : Option ℕ → ℕ → ℕ → Bool
is_marked None mark now = false
is_marked (Some ms) mark now = nat_le (ms_after mark ms) now

-- when a watch that began at `start` has something to do: at its end, or where its next bookmark is due
abbrev pub due_at : ℕ → Option ℕ → ℕ → ℕ → ℕ
due_at timeout None start mark = ms_after start timeout
due_at timeout (Some ms) start mark = min (ms_after start timeout) (ms_after mark ms)

-- how long it rests at `now`: until then, for 30 seconds at most
abbrev pub rest_of : ℕ → Option ℕ → ℕ → ℕ → ℕ → ℕ
rest_of timeout bookmark start mark now = min (due_at timeout bookmark start mark - now) 30000

-- and for 20 milliseconds at most where nobody rings for it
abbrev pub rest_by : Bool → ℕ → ℕ
rest_by is_rung ms = if is_rung then ms else min ms 20

-- a watch is asked to stop: by its own clock, or since all watches were ended behind its beginning
abbrev pub is_stopped : Bool → ℕ → ℕ → Bool
is_stopped stop began ended = stop || nat_lt began ended
