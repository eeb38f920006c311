use Rattle.watch_rules.proofs.BodyLemmas.{positions_are_between}
use Rattle.watch_rules.proofs.laws.positions_rise.Goals as goal

pub returns : goal.returns
returns c = positions_are_between
