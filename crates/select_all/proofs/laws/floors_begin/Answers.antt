use Rattle.select_all.proofs.FloorSteps.{floors_begin}
use Rattle.select_all.proofs.laws.floors_begin.Goals as goal

pub returns : goal.returns
returns c = floors_begin
