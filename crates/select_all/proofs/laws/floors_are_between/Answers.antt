use Rattle.select_all.proofs.FloorLaws.{are_between}
use Rattle.select_all.proofs.laws.floors_are_between.Goals as goal

pub returns : goal.returns
returns c = are_between
