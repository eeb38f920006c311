use Rattle.cached_client.proofs.CacheLemmas.{follows_later}
use Rattle.cached_client.proofs.cache_state.CacheState.share.Goals as goal

pub invariant_of-self : goal.invariant_of-self
invariant_of-self g c = follows_later _ _ _ _ c.share.new.self c.share.ensures.extends c.self.invariant
