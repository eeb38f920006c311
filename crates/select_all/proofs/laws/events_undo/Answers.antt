use Rattle.select_all.proofs.EventLaws.{undo}
use Rattle.select_all.proofs.laws.events_undo.Goals as goal

pub returns : goal.returns
returns c = undo
