use Rattle.watch_rules.proofs.LineLemmas.{tellings_go_on}
use Rattle.watch_rules.proofs.laws.tellings_go_on.Goals as goal

pub returns : goal.returns
returns c = tellings_go_on
