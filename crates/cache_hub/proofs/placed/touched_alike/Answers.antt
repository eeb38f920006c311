use Rattle.cache_hub.proofs.IndexLemmas.{untold_with}
use Rattle.cache_hub.proofs.TellLemmas.{silent_on}
use Rattle.cache_hub.proofs.placed.touched_alike.Goals as goal

pub loop-event-preserved : goal.loop-event-preserved
loop-event-preserved c = λ lanes indexed.
    silent_on lanes c.in-Some.rest.now c.loop-event.event-index c.event-item.result c.in-Ok.ids.items c.loop-event-test.true c.event-item.is (c.loop-event.invariant lanes indexed)
    (untold_with c.args.index.now lanes c.in-Ok.ids.items c.in-Some.first.now c.event-item.result indexed c.in-Ok.ensures.exact (c.goes_with.ensures c.if-not-goes_with.false))
