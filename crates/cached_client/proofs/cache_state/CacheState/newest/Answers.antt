use Rattle.std.proofs.Common.{ap, sym, subst, arith}
use Rattle.rev_log.specs.States.{IsStateAt}
use Rattle.up_api.specs.Sections.{log_of}
use Rattle.cached_client.specs.CacheStates.{CacheStateData}
use Rattle.cached_client.proofs.StandLemmas.{state_seen}
use Rattle.cached_client.proofs.cache_state.CacheState.newest.Goals as goal

pub returns-clause-state : goal.returns-clause-state
returns-clause-state g c =
    let q = c.args.told.now in
    let low = ap (λ (x : CacheStateData). x.hub.cache.end) c.self.view_is in
    subst (λ n. IsStateAt (log_of g.N.LogFacts.base q) g.One.OfResource.resource n c.in_ok-state.state) (sym c.end.ensures)
    (state_seen _ _ _ _ _ c.self.view_is q c.self.invariant c.requires.knows c.self.inside.hub.cache.end c.in_ok-state.state (omega (arith, low)) c.in_ok-state.ensures)
