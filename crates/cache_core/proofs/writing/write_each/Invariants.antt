use Rattle.std.proofs.Common.{◌≡◌, take}
use Rattle.cache_core.specs.Steps.{with_events}
use Rattle.cache_core.proofs.writing.write_each.Given as goal

abbrev pub invariant-loop-event : goal.invariant-loop-event
invariant-loop-event l = l.tree ≡ with_events l.initial.tree (take l.event-index l.events)
