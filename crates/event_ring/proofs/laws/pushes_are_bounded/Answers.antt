use Rattle.event_ring.proofs.PushLemmas.{bounded}
use Rattle.event_ring.proofs.laws.pushes_are_bounded.Goals as goal

pub returns : goal.returns
returns c = bounded
