use Rattle.mirror_law.proofs.TakenLemmas.{openings_are_taken}
use Rattle.mirror_law.proofs.laws.openings_are_taken.Goals as goal

pub returns : goal.returns
returns c = openings_are_taken
