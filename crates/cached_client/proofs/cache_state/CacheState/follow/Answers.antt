use Rattle.std.proofs.Common.{subst}
use Rattle.reflect_core.specs.Pumps.{HasCause, MayRiseFor}
use Rattle.cached_client.specs.CacheStates.{CacheStateData}
use Rattle.cached_client.proofs.ReadLemmas.{read_for}
use Rattle.cached_client.proofs.CacheLemmas.{follows_pumped}
use Rattle.cached_client.proofs.cache_state.CacheState.follow.Goals as goal

pub invariant_of-self : goal.invariant_of-self
invariant_of-self g c =
    let e = c.pump-pumped.ensures in
    follows_pumped g.N.LogFacts.base g.W.Window.window g.One.OfResource.resource (record { hub = c.self.inside.hub; reflector = c.self.inside.reflector; pass = c.self.inside.pass }) (record { hub = c.pump-pumped.new.held; reflector = c.pump-pumped.new.self; pass = c.pump-pumped.new.told })
    c.self.invariant e.learns.extends e.resource e.same.0 e.window e.stands e.known e.base

pub returns-clause-reads : goal.returns-clause-reads
returns-clause-reads g c =
    let e = c.pump-pumped.ensures in
    let q = c.pump-pumped.new.told in
    subst (λ (x : CacheStateData). MayRiseFor (HasCause x.hub.cache.end x.pass q) (g.U.Upstream.reads c.args.up.now) (g.U.Upstream.reads c.pump-pumped.new.up)) c.self.view_is
    (read_for c.pump-pumped.result _ _ _ c.self.inside.hub.cache.end c.self.inside.pass q e.reads e.rebuilds e.cause e.reads_for)
