-- One start more.
use Rattle.std.proofs.Common.{◌≡◌, ℕ, ◌+◌, ◌<◌, max, ◌⊎◌, inl, inr, List, take, subst, arith}
use Rattle.std.proofs.lemmas.Bool.{cases_lt}
use Rattle.body_check.specs.Findings.{Begins, IsBrokenAt}
use Rattle.body_check.specs.Trials.{AreTried}

module _ (IsAllowed : ℕ → Type 0) (Tells : ℕ → List (List ℕ) → ℕ → Type 0) (texts : List (List ℕ)) where
  last_or_below : (at next : ℕ) → at < next + 1 → (at < next) ⊎ (at ≡ next)
  last_or_below at next le = elim (cases_lt at next) [ inl below ↦ inl below | inr past ↦ inr (omega arith) ]

  -- one that isn't allowed
  pub tried_over : (next best : ℕ) → (IsAllowed next → ⊥) → AreTried IsAllowed Tells texts next best → AreTried IsAllowed Tells texts (next + 1) best
  tried_over next best not tried = record {
    none = λ at p allowed below tells. elim (last_or_below at next below) [
      | inl less ↦ tried.none at p allowed less tells
      | inr last ↦ not (subst IsAllowed last allowed)
    ];
    within = tried.within;
    begun = tried.begun;
    greatest = λ at m allowed below few begins. elim (last_or_below at next below) [
      | inl less ↦ tried.greatest at m allowed less few begins
      | inr last ↦ absurd (not (subst IsAllowed last allowed))
    ];
  }

  -- one that is, and doesn't tell the texts
  pub tried_more : (next best n : ℕ) → IsAllowed next → IsBrokenAt (Tells next) texts n → AreTried IsAllowed Tells texts next best → AreTried IsAllowed Tells texts (next + 1) (max best n)
  tried_more next best n allowed broken tried = record {
    none = λ at p may below tells. elim (last_or_below at next below) [
      | inl less ↦ tried.none at p may less tells
      | inr last ↦ broken.none p (subst (λ (a : ℕ). Tells a texts p) last tells)
    ];
    within = omega (arith, tried.within, broken.within);
    begun = elim (cases_lt best n) [
      | inl more ↦
          let e : n ≡ max best n = omega arith in
          inr (next, allowed, subst (λ (k : ℕ). Begins (Tells next) (take k texts)) e broken.begun)
      | inr no_more ↦
          let e : best ≡ max best n = omega arith in
          subst (λ (k : ℕ). (k ≡ 0) ⊎ ((at : ℕ) × IsAllowed at × Begins (Tells at) (take k texts))) e tried.begun
    ];
    greatest = λ at m may below few begins. elim (last_or_below at next below) [
      | inl less ↦ omega (arith, tried.greatest at m may less few begins)
      | inr last ↦ omega (arith, broken.greatest m few (subst (λ (a : ℕ). Begins (Tells a) (take m texts)) last begins))
    ];
  }
