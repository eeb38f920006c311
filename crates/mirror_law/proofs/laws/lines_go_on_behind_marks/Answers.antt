use Rattle.mirror_law.proofs.OnceLemmas.{lines_go_on_behind_marks}
use Rattle.mirror_law.proofs.laws.lines_go_on_behind_marks.Goals as goal

pub returns : goal.returns
returns c = lines_go_on_behind_marks
