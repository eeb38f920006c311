use Rattle.std.proofs.Common.{refl, ap, arith}
use Rattle.rev_front.specs.Passes.{Pass}
use Rattle.rev_log.specs.Changes.{RevisionData}
use Rattle.cached_client.proofs.KnowingLemmas.{knows_on}
use Rattle.cached_client.proofs.StandLemmas.{end_seen, state_seen}
use Rattle.cached_client.proofs.cache_state.CacheState.state_at.Goals as goal

pub returns-in-Ok-clause-found : goal.returns-in-Ok-clause-found
returns-in-Ok-clause-found g c =
    let q = c.look_floor-floor.new.self in
    let knows = knows_on c.args.self.now.pass c.args.told.now q c.requires.knows c.look_floor-floor.ensures.extends in
    record {
      state = state_seen _ _ _ _ _ c.self.view_is q c.self.invariant knows c.args.at c.in-Ok.state c.requires.reached c.in-Ok.ensures.state;
      seen = omega (arith, c.requires.reached, end_seen _ _ _ _ _ c.self.view_is q c.self.invariant knows);
      serves = (refl, omega (arith, c.if-at-floor.false, ap (λ (x : Pass RevisionData). x.floor) c.look_floor-floor.ensures.load));
    }
