use Rattle.watch_rules.proofs.BodyLemmas.{bodies_begin}
use Rattle.watch_rules.proofs.laws.bodies_begin.Goals as goal

pub returns : goal.returns
returns c = bodies_begin
