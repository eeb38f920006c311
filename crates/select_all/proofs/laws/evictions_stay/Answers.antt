use Rattle.select_all.proofs.FloorSteps.{evictions_stay}
use Rattle.select_all.proofs.laws.evictions_stay.Goals as goal

pub returns : goal.returns
returns c = evictions_stay
