use Rattle.select_all.proofs.FloorLaws.{are_greatest}
use Rattle.select_all.proofs.laws.floors_are_greatest.Goals as goal

pub returns : goal.returns
returns c = are_greatest
