use Rattle.select_all.proofs.EventLaws.{are_above}
use Rattle.select_all.proofs.laws.events_above.Goals as goal

pub returns : goal.returns
returns c = are_above
