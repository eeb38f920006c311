use Rattle.select_all.proofs.StreamLaws.{no_transitions}
use Rattle.select_all.proofs.laws.transitions_none.Goals as goal

pub returns : goal.returns
returns c = no_transitions
