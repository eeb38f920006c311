use Rattle.std.specs.Prelude.{◌≡◌}
use Rattle.cache_hub.proofs.calling.hand_over_all.Given as goal

abbrev pub invariant-loop-id : goal.invariant-loop-id
invariant-loop-id g l = (l.placed.entries ≡ l.fn.placed.entries) × (l.alike.entries ≡ l.fn.alike.entries)
