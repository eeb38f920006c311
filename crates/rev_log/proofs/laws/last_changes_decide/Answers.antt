use Rattle.rev_log.proofs.LastLemmas.{last_decides}
use Rattle.rev_log.proofs.laws.last_changes_decide.Goals as goal

pub returns : goal.returns
returns c = last_decides
