use Rattle.cache_hub.proofs.WaitingLemmas.{all_due_on}
use Rattle.cache_hub.proofs.placed.waiting.Goals as goal

pub loop-event-preserved : goal.loop-event-preserved
loop-event-preserved g c = all_due_on c.args.lanes.now.entries c.args.events.now c.loop-event.event-index c.event-item.result c.loop-event.waiting.entries c.note.new.waiting.entries
    c.loop-event-test.true c.event-item.is c.loop-event.invariant c.in_ok-note.ensures
