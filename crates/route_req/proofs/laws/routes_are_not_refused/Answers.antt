use Rattle.route_req.proofs.Outcomes.{routes_are_not_refused}
use Rattle.route_req.proofs.laws.routes_are_not_refused.Goals as goal

pub returns : goal.returns
returns c = routes_are_not_refused
