use Rattle.mirror_law.proofs.OnceLemmas.{bodies_take_marks}
use Rattle.mirror_law.proofs.laws.bodies_take_marks.Goals as goal

pub returns : goal.returns
returns c = bodies_take_marks
