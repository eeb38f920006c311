use Rattle.std.proofs.Common.{max}
use Rattle.cached_client.proofs.CacheLemmas.{follows_ticked}
use Rattle.cached_client.proofs.cache_state.CacheState.tick.Goals as goal

pub invariant_of-self : goal.invariant_of-self
invariant_of-self g c = follows_ticked _ _ _ _ c.tick.new.self (max c.self.inside.hub.cache.time c.args.ms) c.self.invariant c.tick.ensures.time c.tick.ensures.stands
