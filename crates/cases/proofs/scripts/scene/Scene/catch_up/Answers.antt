use Rattle.cases.proofs.SceneLemmas.{lanes_on}
use Rattle.cases.proofs.scripts.scene.Scene.catch_up.Goals as goal

pub invariant_of-self : goal.invariant_of-self
invariant_of-self g c = lanes_on g.N.LogFacts.base c.self.inside.hub c.catch_up.new.self c.self.inside.told c.self.inside.reflector c.catch_up.ensures.same.cache c.catch_up.ensures.stands c.self.invariant
