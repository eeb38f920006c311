use Rattle.event_ring.proofs.PushLemmas.{lose_nothing}
use Rattle.event_ring.proofs.laws.pushes_lose_nothing.Goals as goal

pub returns : goal.returns
returns c = lose_nothing
