use Rattle.std.specs.Prelude.{ℕ, List, take}
use Rattle.cache_hub.specs.Due.{AreSilent}
use Rattle.cache_hub.specs.OpenLanes.{OpenLaneData, IsIndexed}
use Rattle.cache_hub.proofs.placed.touched_alike.Given as goal

abbrev pub invariant-loop-event : goal.invariant-loop-event
invariant-loop-event l = (lanes : List (ℕ × OpenLaneData)) → IsIndexed l.index lanes → AreSilent lanes (take l.event-index l.rest) l.ids.items
