use Rattle.cached_client.proofs.CallLemmas.{learns_self}
use Rattle.shared_client.proofs.shared.SharedCachesCaches.meet.Goals as goal

pub returns-clause-learns : goal.returns-clause-learns
returns-clause-learns g c = learns_self c.args._told.now
