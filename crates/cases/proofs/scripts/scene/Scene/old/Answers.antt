use Rattle.cases.proofs.SceneLemmas.{learns_on}
use Rattle.cases.proofs.scripts.scene.Scene.old.Goals as goal

pub invariant_of-self : goal.invariant_of-self
invariant_of-self g c = learns_on g.N.LogFacts.base c.self.inside.hub c.self.inside.told c.old_state.new.told c.self.inside.reflector c.old_state.ensures.learns c.self.invariant
