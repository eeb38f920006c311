use Rattle.mirror_law.proofs.TakenLemmas.{lines_are_reached}
use Rattle.mirror_law.proofs.laws.lines_are_reached.Goals as goal

pub returns : goal.returns
returns c = lines_are_reached
