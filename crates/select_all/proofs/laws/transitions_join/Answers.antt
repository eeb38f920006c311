use Rattle.select_all.proofs.StreamLaws.{transitions_are_joined}
use Rattle.select_all.proofs.laws.transitions_join.Goals as goal

pub returns : goal.returns
returns c = transitions_are_joined
