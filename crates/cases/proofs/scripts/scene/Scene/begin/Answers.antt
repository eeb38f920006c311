use Rattle.cases.proofs.SceneLemmas.{learns_on}
use Rattle.cases.proofs.scripts.scene.Scene.begin.Goals as goal

pub invariant_of-self : goal.invariant_of-self
invariant_of-self g c = learns_on g.N.LogFacts.base c.self.inside.hub c.self.inside.told c.begin.new.told c.self.inside.reflector c.begin.ensures.learns c.self.invariant
