use Rattle.rev_log.proofs.FitLemmas.{are_logs}
use Rattle.rev_log.proofs.laws.fitting_logs_are_logs.Goals as goal

pub returns : goal.returns
returns c = are_logs
