use Rattle.std.specs.Prelude.{◌≡◌, false, take, is_some}
use Rattle.std.specs.List.{list_any}
use Rattle.cache_hub.specs.Due.{due}
use Rattle.cache_hub.proofs.open_lane.OpenLane.is_concerned.Given as goal

abbrev pub invariant-loop-event : goal.invariant-loop-event
invariant-loop-event g l = list_any (λ e. is_some (due l.self.lane e)) (take l.event-index l.events) ≡ false
