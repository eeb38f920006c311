-- How often upstream was read.
use Rattle.std.specs.Prelude.{IfOk, OnErr, Result, Ok, Err}
use Rattle.std.proofs.Common.{◌≡◌, ℕ, zero, suc, ◌≤◌, ◌<◌, ◌⊎◌, inl, inr, Option, Some, None, refl, arith}
use Rattle.rev_front.specs.Passes.{Pass}
use Rattle.rev_log.specs.Changes.{RevisionData}
use Rattle.reflect_core.specs.Pumps.{HasCause, MayRiseFor, raised_where_told}
use Rattle.reflect_core.specs.declared.pump.Pumped.{Pumped}

may-rise : (rebuilds : ℕ) (old new : Option ℕ) (cause : Type 0) → rebuilds ≤ 1 → new ≡ raised_where_told rebuilds old → (rebuilds ≡ 1 → cause) → MayRiseFor cause old new
may-rise zero None new cause few is why = inl is
may-rise zero (Some n) new cause few is why = inl is
may-rise (suc zero) None new cause few is why = inr (is, why refl)
may-rise (suc zero) (Some n) new cause few is why = inr (is, why refl)
may-rise (suc (suc n)) old new cause few is why = absurd (omega (arith, few))

-- a second cut is a cut
pub cause_of : (end cuts : ℕ) (p q : Pass RevisionData) → (end < q.floor) ⊎ ((cuts ≡ 2) × (p.gen < q.gen)) → HasCause end p q
cause_of end cuts p q is = elim is [
  | inl past ↦ inl past
  | inr cut ↦ inr cut.1
]

-- by a pump, whatever it answered
pub read_for : {E : Type 0} (answer : Result Pumped E) (more : Pumped → Type 0) (old new : Option ℕ) (end : ℕ) (p q : Pass RevisionData) →
    IfOk answer (λ pumped. new ≡ raised_where_told pumped.rebuilds old) → IfOk answer (λ pumped. (pumped.rebuilds ≤ 1) × more pumped) →
    IfOk answer (λ pumped. pumped.rebuilds ≡ 1 → (end < q.floor) ⊎ ((pumped.cuts ≡ 2) × (p.gen < q.gen))) → OnErr answer (MayRiseFor (HasCause end p q) old new) →
    MayRiseFor (HasCause end p q) old new
read_for (Ok pumped) more old new end p q reads few cause broken = may-rise pumped.rebuilds old new (HasCause end p q) few.0 reads (λ one. cause_of end pumped.cuts p q (cause one))
read_for (Err memory) more old new end p q reads few cause broken = broken

-- ---- a cause stays one for whoever knew less before, and knows more then

pub cause_on : (end : ℕ) (p m n q : Pass RevisionData) → p.gen ≤ m.gen → n.floor ≤ q.floor → n.gen ≤ q.gen → HasCause end m n → HasCause end p q
cause_on end p m n q before floor after is = elim is [
  | inl past ↦ inl (omega (arith, past, floor))
  | inr cut ↦ inr (omega (arith, cut, before, after))
]

pub may_rise_on : (end : ℕ) (p m n q : Pass RevisionData) (old new : Option ℕ) → p.gen ≤ m.gen → n.floor ≤ q.floor → n.gen ≤ q.gen → MayRiseFor (HasCause end m n) old new → MayRiseFor (HasCause end p q) old new
may_rise_on end p m n q old new before floor after is = elim is [
  | inl same ↦ inl same
  | inr rose ↦ inr (rose.0, cause_on end p m n q before floor after rose.1)
]
