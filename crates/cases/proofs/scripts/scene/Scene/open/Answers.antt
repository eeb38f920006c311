use Rattle.cases.proofs.SceneLemmas.{lanes_on}
use Rattle.cases.proofs.scripts.scene.Scene.open.Goals as goal

pub invariant_of-self : goal.invariant_of-self
invariant_of-self g c = lanes_on g.N.LogFacts.base c.self.inside.hub c.open_lane.new.self c.self.inside.told c.self.inside.reflector c.open_lane.ensures.same.cache c.open_lane.ensures.stands c.self.invariant
