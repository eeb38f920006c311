use Rattle.rev_log.proofs.FitLemmas.{numbered}
use Rattle.rev_log.proofs.laws.fitting_logs_are_numbered.Goals as goal

pub returns : goal.returns
returns c = numbered
