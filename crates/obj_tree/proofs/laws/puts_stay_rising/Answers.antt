use Rattle.obj_tree.proofs.MapLemmas.{put_stays_rising}
use Rattle.obj_tree.proofs.laws.puts_stay_rising.Goals as goal

pub returns : goal.returns
returns c = put_stays_rising
