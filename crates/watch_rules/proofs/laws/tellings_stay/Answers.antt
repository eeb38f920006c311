use Rattle.watch_rules.proofs.LineLemmas.{tellings_stay}
use Rattle.watch_rules.proofs.laws.tellings_stay.Goals as goal

pub returns : goal.returns
returns c = tellings_stay
