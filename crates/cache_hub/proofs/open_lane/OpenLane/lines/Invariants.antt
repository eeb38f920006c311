use Rattle.std.specs.Prelude.{◌≡◌, take}
use Rattle.cache_hub.specs.Due.{all_due}
use Rattle.cache_hub.proofs.open_lane.OpenLane.lines.Given as goal

abbrev pub invariant-loop-event : goal.invariant-loop-event
invariant-loop-event g l = l.lines.items ≡ all_due l.self.lane (take l.event-index l.events)
