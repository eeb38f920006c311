use Rattle.std.proofs.Common.{ap, sym}
use Rattle.cached_client.specs.CacheStates.{CacheStateData}
use Rattle.cached_client.proofs.StandLemmas.{lost_below}
use Rattle.cached_client.proofs.cache_state.CacheState.floor.Goals as goal

pub returns-clause-lost : goal.returns-clause-lost
returns-clause-lost g c = λ s at of below.
    lost_below _ _ _ _ _ c.self.view_is c.args.told.now c.self.invariant c.requires.knows s at c.floor.result c.args.self.now.hub.cache.ring.window of c.floor.ensures
    (ap (λ (x : CacheStateData). x.hub.cache.ring.window) (sym c.self.view_is)) below
