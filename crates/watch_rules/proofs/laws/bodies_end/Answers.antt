use Rattle.watch_rules.proofs.BodyLemmas.{bodies_end}
use Rattle.watch_rules.proofs.laws.bodies_end.Goals as goal

pub returns : goal.returns
returns c = bodies_end
