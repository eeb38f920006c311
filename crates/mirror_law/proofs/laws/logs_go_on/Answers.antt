use Rattle.mirror_law.proofs.RowLemmas.{logs_go_on}
use Rattle.mirror_law.proofs.laws.logs_go_on.Goals as goal

pub returns : goal.returns
returns c = logs_go_on
