use Rattle.mirror_law.proofs.RowLemmas.{bases_are_states}
use Rattle.mirror_law.proofs.laws.bases_are_states.Goals as goal

pub returns : goal.returns
returns c = bases_are_states
