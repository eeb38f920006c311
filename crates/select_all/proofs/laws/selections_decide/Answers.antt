use Rattle.select_all.proofs.SelectionLaws.{selects_decides}
use Rattle.select_all.proofs.laws.selections_decide.Goals as goal

pub returns : goal.returns
returns c = selects_decides
