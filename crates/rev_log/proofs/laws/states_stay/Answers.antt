use Rattle.rev_log.proofs.GrowthLemmas.{states_stay}
use Rattle.rev_log.proofs.laws.states_stay.Goals as goal

pub returns : goal.returns
returns c = states_stay
