use Rattle.select_all.proofs.StreamLaws.{transitions_are_kept}
use Rattle.select_all.proofs.laws.transitions_stay.Goals as goal

pub returns : goal.returns
returns c = transitions_are_kept
