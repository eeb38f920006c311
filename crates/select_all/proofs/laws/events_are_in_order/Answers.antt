use Rattle.select_all.proofs.OrderLaws.{events_in_order}
use Rattle.select_all.proofs.laws.events_are_in_order.Goals as goal

pub returns : goal.returns
returns c = events_in_order
