use Rattle.watch_rules.proofs.BodyLemmas.{bodies_go_on}
use Rattle.watch_rules.proofs.laws.bodies_go_on.Goals as goal

pub returns : goal.returns
returns c = bodies_go_on
