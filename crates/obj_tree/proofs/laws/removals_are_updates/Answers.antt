use Rattle.obj_tree.proofs.MapLemmas.{removal_is_update}
use Rattle.obj_tree.proofs.laws.removals_are_updates.Goals as goal

pub returns : goal.returns
returns c = removal_is_update
