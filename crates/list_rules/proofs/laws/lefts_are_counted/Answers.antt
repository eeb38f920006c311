use Rattle.list_rules.proofs.PageLemmas.{lefts_are_counted}
use Rattle.list_rules.proofs.laws.lefts_are_counted.Goals as goal

pub returns : goal.returns
returns c = lefts_are_counted
