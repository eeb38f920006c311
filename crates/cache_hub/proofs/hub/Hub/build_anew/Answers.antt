use Rattle.cache_hub.proofs.HubLemmas.{rebuilt_stands}
use Rattle.cache_hub.proofs.hub.Hub.build_anew.Goals as goal

pub returns-clause-stands : goal.returns-clause-stands
returns-clause-stands g c =
    rebuilt_stands g.N.LogFacts.base c.args.told.now c.args.self.now c.self.inside.cache c.rebuild.new.self c.self.inside.rebuilds _ c.self.inside.lanes c.lag.new.self c.args.history c.self.view_is
    c.shown-known.ensures.lawful.fitting c.requires.stands c.requires.history c.in_ok-rebuild.ensures.stands c.in_ok-rebuild.ensures.rebuilt.end c.in_ok-rebuild.ensures.rebuilt.stays.resource c.lag.ensures.behind
