use Rattle.std.proofs.Common.{ap, sym}
use Rattle.cache_core.specs.Caches.{CacheData}
use Rattle.cached_client.specs.CacheStates.{CacheStateData}
use Rattle.cached_client.proofs.CacheLemmas.{follows_lanes}
use Rattle.cached_client.proofs.StandLemmas.{caught_ok, lost_err}
use Rattle.cached_client.proofs.cache_state.CacheState.catch_up.Goals as goal

pub invariant_of-self : goal.invariant_of-self
invariant_of-self g c = follows_lanes _ _ _ _ c.catch_up.new.self c.self.invariant c.catch_up.ensures.same c.catch_up.ensures.stands

pub returns-clause-caught : goal.returns-clause-caught
returns-clause-caught g c =
    caught_ok _ _ _ _ _ c.self.view_is c.share.new.told c.self.invariant c.share.ensures.section.knows c.args.selection.now c.args.at c.args.max c.args.self.now.hub.cache.end c.catch_up.result
    (sym (ap (λ (x : CacheStateData). x.hub.cache.end) c.share.ensures.same)) c.catch_up.ensures.caught

pub returns-clause-lost : goal.returns-clause-lost
returns-clause-lost g c =
    lost_err _ _ _ _ _ c.self.view_is c.share.new.told c.self.invariant c.share.ensures.section.knows c.args.selection.now c.args.at c.catch_up.new.self.cache.ring.window c.catch_up.result c.requires.resource
    (ap (λ (x : CacheData). x.ring.window) c.catch_up.ensures.same.cache) c.catch_up.ensures.refused
