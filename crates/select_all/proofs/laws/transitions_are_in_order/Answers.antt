use Rattle.select_all.proofs.OrderLaws.{transitions_in_order}
use Rattle.select_all.proofs.laws.transitions_are_in_order.Goals as goal

pub returns : goal.returns
returns c = transitions_in_order
