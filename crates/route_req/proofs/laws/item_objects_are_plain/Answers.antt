use Rattle.route_req.proofs.PlainItems.{item_objects_are_plain}
use Rattle.route_req.proofs.laws.item_objects_are_plain.Goals as goal

pub returns : goal.returns
returns c = item_objects_are_plain
