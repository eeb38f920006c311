use Rattle.event_ring.proofs.PushLemmas.{whole_revisions}
use Rattle.event_ring.proofs.laws.pushes_drop_whole_revisions.Goals as goal

pub returns : goal.returns
returns c = whole_revisions
