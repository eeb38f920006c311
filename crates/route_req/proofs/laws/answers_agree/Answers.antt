use Rattle.route_req.proofs.OneAnswer.{answers_agree}
use Rattle.route_req.proofs.laws.answers_agree.Goals as goal

pub returns : goal.returns
returns c = answers_agree
