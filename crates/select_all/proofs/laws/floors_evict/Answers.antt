use Rattle.select_all.proofs.FloorSteps.{floors_evict}
use Rattle.select_all.proofs.laws.floors_evict.Goals as goal

pub returns : goal.returns
returns c = floors_evict
