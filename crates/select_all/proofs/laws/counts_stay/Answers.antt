use Rattle.select_all.proofs.FloorSteps.{counts_are_kept}
use Rattle.select_all.proofs.laws.counts_stay.Goals as goal

pub returns : goal.returns
returns c = counts_are_kept
