-- When threads that serve are made, and when they go.
use Rattle.std.specs.Prelude.{ℕ, nat_lt, nat_le, ◌==◌, Bool, ◌&&◌, ◌||◌, if◌then◌else◌}
use Rattle.net_front.specs.declared.helpers.HostStep.{HostStep}
use Rattle.net_front.specs.declared.helpers.HostStep.TheVariants.{End, Rest, Pause, Make}

-- a helper is wanted: few threads wait for a connection, and fewer than `most` live
abbrev pub is_wanted : ℕ → ℕ → ℕ → Bool
is_wanted waiting living most = nat_lt waiting 32 && nat_lt living most

-- a helper may be wanted where so many waited and one fewer does
abbrev pub is_few : ℕ → Bool
is_few waited = nat_le waited 32

-- a helper that has served goes: many wait
abbrev pub is_crowded : ℕ → Bool
is_crowded waiting = nat_lt 128 waiting

-- what the host does next: it ends where no connection will come, or none is to have a helper; it makes a helper that
-- is wanted, but pauses first where one found no memory since it looked last; else it rests
abbrev pub host_step : Bool → ℕ → Bool → Bool → HostStep
host_step is_over most wanted has_lacked =
    if is_over || most == 0 then End else (if wanted then (if has_lacked then Pause else Make) else Rest)

-- and where no thread could be made: it ends where no thread lives, and tries again in a while else
abbrev pub step_without : ℕ → HostStep
step_without living = if living == 0 then End else Pause
