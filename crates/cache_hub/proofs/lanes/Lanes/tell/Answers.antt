use Rattle.std.proofs.Common.{subst, sym, ◌++◌}
use Rattle.up_api.specs.Sections.{log_of}
use Rattle.cache_hub.specs.Due.{AreReady}
use Rattle.cache_hub.specs.OpenLanes.{LanesData, AreTold}
use Rattle.cache_hub.proofs.BothLemmas.{ready_placed, ready_alike, told_both}
use Rattle.cache_hub.proofs.lanes.Lanes.tell.Goals as goal

pub tell_placed-requires-clause-ready : goal.tell_placed-requires-clause-ready
tell_placed-requires-clause-ready g c =
    ready_placed (log_of g.N.LogFacts.base c.args.told.now) c.args.end c.args.events.now c.self.inside.placed.entries c.self.inside.alike.entries
    (subst (λ (x : LanesData). AreReady (log_of g.N.LogFacts.base c.args.told.now) c.args.end c.args.events.now x.all) (sym c.self.view_is) c.requires.ready)

pub tell_every-requires-clause-ready : goal.tell_every-requires-clause-ready
tell_every-requires-clause-ready g c =
    subst (λ p. AreReady (log_of g.N.LogFacts.base p) c.args.end c.args.events.now c.self.inside.alike.entries) (sym c.tell_placed.ensures.told)
    (ready_alike (log_of g.N.LogFacts.base c.args.told.now) c.args.end c.args.events.now c.self.inside.placed.entries c.self.inside.alike.entries c.self.invariant.6
    (subst (λ (x : LanesData). AreReady (log_of g.N.LogFacts.base c.args.told.now) c.args.end c.args.events.now x.all) (sym c.self.view_is) c.requires.ready))

pub returns-clause-lanes : goal.returns-clause-lanes
returns-clause-lanes g c =
    let log = log_of g.N.LogFacts.base c.args.told.now in
    subst (λ (x : LanesData). AreTold log c.args.end x.all (c.tell_placed.new.lanes.entries ++ c.tell_every.new.lanes.entries)) c.self.view_is
    (told_both log c.args.end c.self.inside.placed.entries c.self.inside.alike.entries c.tell_placed.new.lanes.entries c.tell_every.new.lanes.entries c.tell_placed.ensures.lanes
    (subst (λ p. AreTold (log_of g.N.LogFacts.base p) c.args.end c.self.inside.alike.entries c.tell_every.new.lanes.entries) c.tell_placed.ensures.told c.tell_every.ensures.lanes))
