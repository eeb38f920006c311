use Rattle.mirror_log.proofs.TakeLemmas.{taken_events_fit}
use Rattle.mirror_log.proofs.laws.taken_events_fit.Goals as goal

pub returns : goal.returns
returns c = taken_events_fit
