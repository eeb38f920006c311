use Rattle.select_all.proofs.EventLaws.{are_counted}
use Rattle.select_all.proofs.laws.events_are_counted.Goals as goal

pub returns : goal.returns
returns c = are_counted
