use Rattle.obj_tree.proofs.MapLemmas.{removal_stays_rising}
use Rattle.obj_tree.proofs.laws.removals_stay_rising.Goals as goal

pub returns : goal.returns
returns c = removal_stays_rising
