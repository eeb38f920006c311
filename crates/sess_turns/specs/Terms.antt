-- What a session is told once: of its log, of its client, and how it is set.
use Rattle.std.specs.Prelude.{ℕ, Bool, List, Option, ◌==◌, if◌then◌else◌}
use Rattle.kube_meta.specs.Rows.{RowData}
use Rattle.up_api.specs.declared.settings.Settings.{Settings}
use Rattle.client_api.specs.Facts.{Facts}
use Rattle.client_api.specs.declared.resources.Resources.{Resources}

-- the log's base rows, and whether it is a mirror's; how many changes the client's caches keep at least; its history,
-- where nobody else holds the log; which resources the server has, and whether it takes operations; and the settings
pub record Terms : Type 0 where
  pub base : List RowData
  pub mirror : Bool
  pub window : ℕ
  pub sole_history : Option ℕ
  pub resources : Resources
  pub operable : Bool
  pub settings : Settings

-- what a session is told of its log, of what its client tells of itself, and of its settings
abbrev pub terms_of : List RowData → Bool → Facts → Settings → Terms
terms_of base mirror facts settings =
    record {
      base = base;
      mirror = mirror;
      window = facts.window;
      sole_history = facts.sole_history;
      resources = facts.resources;
      operable = facts.operable;
      settings = settings;
    }

-- after how many seconds a watch ends, where its ask says so many, or 0
abbrev pub watch_seconds : Settings → ℕ → ℕ
watch_seconds settings asked = if asked == 0 then settings.timeout_s else asked
