use Rattle.std.proofs.Common.{arith, ap, sym, subst, ◌∙◌, ◌++◌}
use Rattle.up_api.specs.Sections.{StandsAt, log_of}
use Rattle.cache_core.specs.Caches.{held_events}
use Rattle.cache_hub.specs.OpenLanes.{AreTold}
use Rattle.cache_hub.specs.Hubs.{StandsFor}
use Rattle.cache_hub.proofs.HubLemmas.{feeds_of, ready_of, fed_stands}
use Rattle.cache_hub.proofs.hub.Hub.take_in.Goals as goal

pub tell-requires-clause-ready : goal.tell-requires-clause-ready
tell-requires-clause-ready g c =
    let base = g.N.LogFacts.base in
    let p = c.args.told.now in
    let feeds = feeds_of base p c.args.self.now c.self.inside.cache c.self.inside.rebuilds c.self.inside.lanes c.args.polled.now c.self.view_is c.shown-known.ensures.lawful.fitting c.requires.stands c.requires.from c.requires.polled in
    ready_of base p c.args.self.now c.self.inside.cache c.self.inside.rebuilds c.self.inside.lanes c.deref.result.now c.end.result c.self.view_is c.shown-known.ensures.lawful.fitting c.requires.stands
    (omega (arith, c.apply-fed.ensures.onward.0, c.end.ensures))
    (c.deref.ensures.value ∙ c.apply-fed.ensures.told (log_of base p) feeds
    ∙ ap (λ xs. xs ++ held_events (log_of base p) c.self.inside.cache.resource c.self.inside.cache.end c.apply-fed.new.self.end) c.new-fresh.ensures.items
    ∙ ap (held_events (log_of base p) c.self.inside.cache.resource c.self.inside.cache.end) (sym c.end.ensures))

pub returns-clause-stands : goal.returns-clause-stands
returns-clause-stands g c =
    let base = g.N.LogFacts.base in
    let p = c.args.told.now in
    let feeds = feeds_of base p c.args.self.now c.self.inside.cache c.self.inside.rebuilds c.self.inside.lanes c.args.polled.now c.self.view_is c.shown-known.ensures.lawful.fitting c.requires.stands c.requires.from c.requires.polled in
    subst (λ q. StandsAt (λ log. StandsFor log (record { cache = c.apply-fed.new.self; rebuilds = c.self.inside.rebuilds; lanes = c.tell.new.self })) base q c.apply-fed.new.self.end) (sym c.tell.ensures.told)
    (fed_stands base p c.args.self.now c.self.inside.cache c.apply-fed.new.self c.self.inside.rebuilds c.self.inside.lanes c.tell.new.self c.self.view_is c.requires.stands
    c.apply-fed.ensures.stays.resource c.apply-fed.ensures.onward.0 (omega (arith, c.apply-fed.ensures.onward.1, c.requires.polled.within))
    (c.apply-fed.ensures.stands (log_of base p) feeds)
    (subst (λ e. AreTold (log_of base p) e c.self.inside.lanes.all c.tell.new.self.all) c.end.ensures c.tell.ensures.lanes))
