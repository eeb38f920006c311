use Rattle.mirror_law.proofs.RowLemmas.{rows_are_old}
use Rattle.mirror_law.proofs.laws.rows_are_old.Goals as goal

pub returns : goal.returns
returns c = rows_are_old
