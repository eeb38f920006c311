use Rattle.std.proofs.Common.{ap, ◌∙◌}
use Rattle.std.proofs.lemmas.Result.{IfOk-weaker}
use Rattle.select_all.specs.Streams.{object_of}
use Rattle.event_ring.specs.Events.{EventRows}
use Rattle.cache_hub.proofs.IndexLemmas.{untold, object_is, touches_is}
use Rattle.cache_hub.proofs.placed.touched.Goals as goal

pub returns-clause-exact : goal.returns-clause-exact
returns-clause-exact c = IfOk-weaker c.touched.result _ _
    (λ ids exact. touches_is c.args.index.now c.args.event.now _ _ ids.items
    (c.object.ensures ∙ object_is (λ s. s.value) c.event.inside.before ∙ ap (λ (e : EventRows). object_of e.before) c.event.view_is)
    (c.object-2.ensures ∙ object_is (λ s. s.value) c.event.inside.now ∙ ap (λ (e : EventRows). object_of e.now) c.event.view_is)
    exact)
    c.touched.ensures.exact

pub returns-clause-others : goal.returns-clause-others
returns-clause-others c = IfOk-weaker c.touched.result _ _
    (λ ids listed lanes indexed. untold c.args.index.now lanes ids.items c.args.event.now _ _ indexed
    (c.object.ensures ∙ object_is (λ s. s.value) c.event.inside.before ∙ ap (λ (e : EventRows). object_of e.before) c.event.view_is)
    (c.object-2.ensures ∙ object_is (λ s. s.value) c.event.inside.now ∙ ap (λ (e : EventRows). object_of e.now) c.event.view_is)
    listed)
    c.touched.ensures.events
