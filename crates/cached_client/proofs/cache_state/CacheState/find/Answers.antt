use Rattle.std.proofs.Common.{◌≡◌, ℕ, zero, suc, ◌≤◌, inl, inr, refl, arith}
use Rattle.rev_front.specs.Passes.{Pass}
use Rattle.rev_log.specs.Changes.{RevisionData}
use Rattle.reflect_core.specs.Pumps.{HasCause, RisesFor, raised}
use Rattle.reflect_core.specs.declared.pump.Pumped.{Pumped}
use Rattle.cached_client.specs.CacheStates.{CacheStateData, IsPumped}
use Rattle.cached_client.proofs.ReadLemmas.{cause_of, cause_on}
use Rattle.cached_client.proofs.cache_state.CacheState.find.Goals as goal

rises : (rebuilds old new : ℕ) (cause : Type 0) → rebuilds ≤ 1 → new ≡ raised rebuilds old → (rebuilds ≡ 1 → cause) → RisesFor cause old new
rises zero old new cause few is why = inl is
rises (suc zero) old new cause few is why = inr (is, why refl)
rises (suc (suc n)) old new cause few is why = absurd (omega (arith, few))

-- by a pump that reached a revision, for whoever knows more then
rebuilt : (old new : CacheStateData) (p q r : Pass RevisionData) (until : ℕ) (pumped : Pumped) → IsPumped old new p q until pumped → q.floor ≤ r.floor → q.gen ≤ r.gen →
    RisesFor (HasCause old.hub.cache.end p r) old.hub.rebuilds new.hub.rebuilds
rebuilt old new p q r until pumped is floor gen =
    rises pumped.rebuilds old.hub.rebuilds new.hub.rebuilds (HasCause old.hub.cache.end p r) is.few.1 is.rebuilds
    (λ one. cause_on old.hub.cache.end p p q r (omega arith) floor gen (cause_of old.hub.cache.end pumped.cuts p q (is.cause one)))

pub returns-in-Some-clause-rebuilds : goal.returns-in-Some-clause-rebuilds
returns-in-Some-clause-rebuilds g c =
    let later = c.state_at.ensures.learns.extends in
    rebuilt c.args.self.now c.pump.new.self c.args.told.now c.pump.new.told c.state_at.new.told _ c.in_ok-pump.field-0 c.in_ok-pump.ensures.pumped later.floor_on later.gen_on

pub returns-in_ok-at-in-None-clause-rebuilds : goal.returns-in_ok-at-in-None-clause-rebuilds
returns-in_ok-at-in-None-clause-rebuilds g c =
    let q = c.pump.new.told in
    rebuilt c.args.self.now c.pump.new.self c.args.told.now q q _ c.in_ok-pump.field-0 c.in_ok-pump.ensures.pumped (omega arith) (omega arith)
