-- Which revisions a meaning of `resourceVersion` allows (Kubernetes API concepts, "Resource versions").
use Rattle.std.specs.Prelude.{ℕ, ◌≤◌}
use Rattle.select_all.specs.declared.selection.Meaning.{Meaning}
use Rattle.select_all.specs.declared.selection.Meaning.TheVariants.{MostRecent, Any, NotOlder, Exact}

-- a revision is at least the one that a meaning names, which isn't that of one revision alone
abbrev pub IsAtLeast : Meaning → ℕ → Type 0
IsAtLeast MostRecent at = Unit {0}
IsAtLeast Any at = Unit {0}
IsAtLeast (NotOlder asked) at = asked ≤ at
IsAtLeast (Exact asked) at = ⊥
