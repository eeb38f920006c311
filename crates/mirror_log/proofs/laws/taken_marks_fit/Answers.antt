use Rattle.mirror_log.proofs.TakeLemmas.{taken_marks_fit}
use Rattle.mirror_log.proofs.laws.taken_marks_fit.Goals as goal

pub returns : goal.returns
returns c = taken_marks_fit
