use Rattle.select_all.proofs.FloorSteps.{floors_wait}
use Rattle.select_all.proofs.laws.floors_wait.Goals as goal

pub returns : goal.returns
returns c = floors_wait
