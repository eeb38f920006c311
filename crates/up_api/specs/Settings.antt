-- How a server is set.
use Rattle.std.specs.Prelude.{ℕ, ◌≤◌}
use Rattle.up_api.specs.declared.settings.Settings.{Settings}

-- the settings of a server that wasn't told otherwise
abbrev pub usual : Settings
usual = record {
  window = 100;
  window_max = 100;
  fresh_ms = 75000;
  lane = 16;
  batch = 100;
  history = 10000;
  bookmark_ms = 60000;
  timeout_s = 1800;
  requests = 1000000;
}

-- the number lies in the range from `low` to `high`
abbrev pub IsBetween : ℕ → ℕ → ℕ → Type 0
IsBetween low high n = (low ≤ n) × (n ≤ high)

-- each setting is in its range, and the window is at most the greatest window
pub record AreInRange (s : Settings) : Type 0 where
  pub window : IsBetween 1 102400 s.window
  pub window_max : IsBetween s.window 102400 s.window_max
  pub fresh_ms : IsBetween 1 86400000 s.fresh_ms
  pub lane : IsBetween 1 1024 s.lane
  pub batch : IsBetween 1 10000 s.batch
  pub history : IsBetween 1 1000000 s.history
  pub bookmark_ms : IsBetween 1 86400000 s.bookmark_ms
  pub timeout_s : IsBetween 1 1000000 s.timeout_s
  pub requests : IsBetween 1 1000000 s.requests
