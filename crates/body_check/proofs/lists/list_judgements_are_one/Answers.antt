use Rattle.body_check.proofs.OneLemmas.{one_judgement}
use Rattle.body_check.proofs.lists.list_judgements_are_one.Goals as goal

pub returns : goal.returns
returns c = one_judgement
