use Rattle.route_req.proofs.Outcomes.{refusals_agree}
use Rattle.route_req.proofs.laws.refusals_agree.Goals as goal

pub returns : goal.returns
returns c = refusals_agree
