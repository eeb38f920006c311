use Rattle.watch_rules.proofs.LineLemmas.{beginnings_stay}
use Rattle.watch_rules.proofs.laws.beginnings_stay.Goals as goal

pub returns : goal.returns
returns c = beginnings_stay
