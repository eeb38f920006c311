use Rattle.select_all.proofs.FloorSteps.{floors_go_on}
use Rattle.select_all.proofs.laws.floors_go_on.Goals as goal

pub returns : goal.returns
returns c = floors_go_on
