use Rattle.std.proofs.Common.{rules}
use Rattle.cache_hub.proofs.WaitingLemmas.{due_on}
use Rattle.cache_hub.proofs.open_lane.OpenLane.lines.Goals as goal

pub loop-event-preserved : goal.loop-event-preserved
loop-event-preserved g c = search (rules, due_on c.args.self.now.lane c.args.events.now c.loop-event.event-index c.event-item.result c.loop-event-test.true c.event-item.is)
