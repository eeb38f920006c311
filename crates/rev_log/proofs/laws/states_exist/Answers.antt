use Rattle.rev_log.proofs.ExistLemmas.{exist}
use Rattle.rev_log.proofs.laws.states_exist.Goals as goal

pub returns : goal.returns
returns c = exist
