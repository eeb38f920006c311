use Rattle.rev_log.proofs.GrowthLemmas.{rows_stay}
use Rattle.rev_log.proofs.laws.rows_stay.Goals as goal

pub returns : goal.returns
returns c = rows_stay
