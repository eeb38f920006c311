use Rattle.laws.proofs.AloneLemmas.{are_served_alone}
use Rattle.laws.proofs.answered.requests_are_served_alone.Goals as goal

pub returns : goal.returns
returns c = are_served_alone c.answers_agree.ensures c.routes_are_not_refused.ensures
