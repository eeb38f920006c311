use Rattle.route_req.proofs.Paths.{one_place}
use Rattle.route_req.proofs.laws.paths_name_one_place.Goals as goal

pub returns : goal.returns
returns c = one_place
