-- For how long a read or a write of a connection may wait, in milliseconds.
use Rattle.std.specs.Prelude.{ℕ, ◌-◌, min, nat_lt, Option, Some, None, if◌then◌else◌}
use Rattle.tcp_net.specs.declared.waits.Limits.{Limits}

-- for how long a call may wait at `now`, where what the direction carries began then; `None` where the time for all of
-- it is over
abbrev pub wait_of : Limits → Option ℕ → ℕ → Option ℕ
wait_of limits None now = Some limits.first_ms
wait_of limits (Some began) now =
    if nat_lt (now - began) limits.whole_ms then Some (min limits.each_ms (limits.whole_ms - (now - began))) else None
