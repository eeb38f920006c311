use Rattle.std.proofs.Common.{ap}
use Rattle.cache_hub.specs.Hubs.{HubData}
use Rattle.cases.proofs.SceneLemmas.{same_end_on}
use Rattle.cases.proofs.scripts.scene.Scene.tick.Goals as goal

pub invariant_of-self : goal.invariant_of-self
invariant_of-self g c = same_end_on g.N.LogFacts.base c.self.inside.hub c.tick.new.self c.self.inside.told c.self.inside.reflector (ap (λ (h : HubData). h.cache.resource) c.tick.ensures.time) (ap (λ (h : HubData). h.cache.end) c.tick.ensures.time) c.tick.ensures.stands c.self.invariant
