use Rattle.laws.proofs.DeterminedLemmas.{are_determined}
use Rattle.laws.proofs.answered.replies_are_determined.Goals as goal

pub returns : goal.returns
returns c = are_determined c.answers_agree.ensures c.refusals_agree.ensures c.routes_are_not_refused.ensures
