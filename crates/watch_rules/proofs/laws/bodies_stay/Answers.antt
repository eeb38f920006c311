use Rattle.watch_rules.proofs.BodyLemmas.{bodies_are_kept}
use Rattle.watch_rules.proofs.laws.bodies_stay.Goals as goal

pub returns : goal.returns
returns c = bodies_are_kept
