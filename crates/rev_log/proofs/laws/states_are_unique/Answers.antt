use Rattle.rev_log.proofs.StateLemmas.{are_unique}
use Rattle.rev_log.proofs.laws.states_are_unique.Goals as goal

pub returns : goal.returns
returns c = are_unique
