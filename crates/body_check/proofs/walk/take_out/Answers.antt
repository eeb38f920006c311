use Rattle.rev_log.proofs.MapLemmas.{Follows-remove}
use Rattle.body_check.proofs.walk.take_out.Goals as goal

pub returns : goal.returns
returns c = Follows-remove _ _ c.args.key.now c.remove.ensures.ordered c.remove.ensures.updates
