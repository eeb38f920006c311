use Rattle.select_all.proofs.FloorSteps.{floors_are_kept}
use Rattle.select_all.proofs.laws.floors_stay.Goals as goal

pub returns : goal.returns
returns c = floors_are_kept
