use Rattle.cases.proofs.SceneLemmas.{learns_on}
use Rattle.cases.proofs.scripts.scene.Scene.history.Goals as goal

pub invariant_of-self : goal.invariant_of-self
invariant_of-self g c = learns_on g.N.LogFacts.base c.self.inside.hub c.self.inside.told c.history.new.told c.self.inside.reflector c.history.ensures.learns c.self.invariant
