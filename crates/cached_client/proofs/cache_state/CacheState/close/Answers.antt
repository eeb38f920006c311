use Rattle.cached_client.proofs.CacheLemmas.{follows_lanes}
use Rattle.cached_client.proofs.cache_state.CacheState.close.Goals as goal

pub invariant_of-self : goal.invariant_of-self
invariant_of-self g c = follows_lanes _ _ _ _ c.close_lane.new.self c.self.invariant c.close_lane.ensures.same c.close_lane.ensures.stands
