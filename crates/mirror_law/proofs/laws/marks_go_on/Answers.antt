use Rattle.mirror_law.proofs.OnceLemmas.{marks_go_on}
use Rattle.mirror_law.proofs.laws.marks_go_on.Goals as goal

pub returns : goal.returns
returns c = marks_go_on
