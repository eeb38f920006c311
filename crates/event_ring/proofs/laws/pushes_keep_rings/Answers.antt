use Rattle.event_ring.proofs.PushLemmas.{keep_rings}
use Rattle.event_ring.proofs.laws.pushes_keep_rings.Goals as goal

pub returns : goal.returns
returns c = keep_rings
