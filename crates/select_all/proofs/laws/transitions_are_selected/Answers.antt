use Rattle.select_all.proofs.OrderLaws.{are_selected}
use Rattle.select_all.proofs.laws.transitions_are_selected.Goals as goal

pub returns : goal.returns
returns c = are_selected
