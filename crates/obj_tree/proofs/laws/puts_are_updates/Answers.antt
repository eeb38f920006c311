use Rattle.obj_tree.proofs.MapLemmas.{put_is_update}
use Rattle.obj_tree.proofs.laws.puts_are_updates.Goals as goal

pub returns : goal.returns
returns c = put_is_update
