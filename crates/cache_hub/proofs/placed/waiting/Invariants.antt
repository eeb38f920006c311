use Rattle.std.specs.Prelude.{take}
use Rattle.cache_hub.specs.Due.{AllDue}
use Rattle.cache_hub.proofs.placed.waiting.Given as goal

abbrev pub invariant-loop-event : goal.invariant-loop-event
invariant-loop-event g l = AllDue l.lanes.entries (take l.event-index l.events) l.waiting.entries
