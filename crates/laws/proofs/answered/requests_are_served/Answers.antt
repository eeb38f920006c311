use Rattle.laws.proofs.AnswerLemmas.{are_served}
use Rattle.laws.proofs.answered.requests_are_served.Goals as goal

pub returns : goal.returns
returns c = are_served c.answers_agree.ensures c.routes_are_not_refused.ensures
