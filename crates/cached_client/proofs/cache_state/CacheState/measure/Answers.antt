use Rattle.cached_client.proofs.StandLemmas.{metered_seen}
use Rattle.cached_client.proofs.cache_state.CacheState.measure.Goals as goal

pub returns : goal.returns
returns g c =
    metered_seen _ _ _ _ _ c.self.view_is c.args.told.now c.self.invariant c.requires.knows c.metrics.result c.metrics.ensures.end c.metrics.ensures.objects
