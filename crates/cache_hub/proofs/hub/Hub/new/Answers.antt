use Rattle.cache_hub.proofs.HubLemmas.{stands_new}
use Rattle.cache_hub.proofs.hub.Hub.new.Goals as goal

pub returns-clause-stands : goal.returns-clause-stands
returns-clause-stands g c = stands_new g.N.LogFacts.base c.args.told.now c.args.resource c.args.history c.in_ok-cache.cache 0 c.new-2.result _ c.shown-known.ensures.lawful.fitting c.requires.history c.in_ok-cache.ensures.stands c.in_ok-cache.ensures.built.end c.new-2.ensures
