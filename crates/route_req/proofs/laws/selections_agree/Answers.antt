use Rattle.route_req.proofs.Selections.{selections_agree}
use Rattle.route_req.proofs.laws.selections_agree.Goals as goal

pub returns : goal.returns
returns c = selections_agree
