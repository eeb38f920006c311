use Rattle.std.proofs.Common.{◌≡◌, map, take}
use Rattle.cache_core.specs.Steps.{change_event}
use Rattle.cache_core.proofs.making.events_made.Given as goal

abbrev pub invariant-loop-change : goal.invariant-loop-change
invariant-loop-change l = l.events.items ≡ map (change_event l.tree l.revision.rev) (take l.change-index l.revision.changes)
