use Rattle.std.proofs.Common.{ap, sym, arith}
use Rattle.cached_client.specs.CacheStates.{CacheStateData}
use Rattle.cached_client.proofs.CacheLemmas.{follows_lanes}
use Rattle.cached_client.proofs.StandLemmas.{along_some, end_seen}
use Rattle.cached_client.proofs.cache_state.CacheState.go_along.Goals as goal

pub invariant_of-self : goal.invariant_of-self
invariant_of-self g c = follows_lanes _ _ _ _ c.go_along.new.self c.self.invariant c.go_along.ensures.same c.go_along.ensures.stands

pub returns-clause-caught : goal.returns-clause-caught
returns-clause-caught g c =
    along_some _ _ _ _ _ c.self.view_is c.share.new.told c.self.invariant c.share.ensures.section.knows c.args.selection.now c.args.at c.args.self.now.hub.cache.end c.go_along.result
    (sym (ap (λ (x : CacheStateData). x.hub.cache.end) c.share.ensures.same)) c.go_along.ensures.caught

pub returns-clause-seen : goal.returns-clause-seen
returns-clause-seen g c =
    let there = end_seen _ _ _ _ _ c.self.view_is c.share.new.told c.self.invariant c.share.ensures.section.knows in
    omega (arith, ap (λ (x : CacheStateData). x.hub.cache.end) c.share.ensures.same, there)
