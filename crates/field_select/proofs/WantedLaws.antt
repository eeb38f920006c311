-- The first term that asks for a field, or for the name, along a list.
use Rattle.std.proofs.Common.{◌≡◌, ℕ, ◌+◌, ◌<◌, false, List, ◌∷◌, length, get_or, drop, refl, sym, ap, ◌∙◌}
use Rattle.std.proofs.lemmas.List.{at_drop_more}
use Rattle.field_select.specs.Meaning.{wanted, wanted_name, asks_for, asks_name}
use Rattle.field_select.specs.declared.terms.Term.{Term}

module _ (terms : List Term) (n i : ℕ) where
  wanted_at : (t : Term) → n < length terms → t ≡ get_or terms n t → wanted (drop n terms) i ≡ wanted (t ∷ drop (n + 1) terms) i
  wanted_at t lt is = at_drop_more (λ ts. wanted ts i) terms n t lt ∙ ap (λ x. wanted (x ∷ drop (n + 1) terms) i) (sym is)

  pub wanted_later : (t : Term) → n < length terms → t ≡ get_or terms n t → asks_for i t ≡ false → wanted (drop (n + 1) terms) i ≡ wanted (drop n terms) i
  wanted_later t lt is other = sym (wanted_at t lt is ∙ rw other refl)

module _ (terms : List Term) (n : ℕ) where
  named_at : (t : Term) → n < length terms → t ≡ get_or terms n t → wanted_name (drop n terms) ≡ wanted_name (t ∷ drop (n + 1) terms)
  named_at t lt is = at_drop_more wanted_name terms n t lt ∙ ap (λ x. wanted_name (x ∷ drop (n + 1) terms)) (sym is)

  pub named_later : (t : Term) → n < length terms → t ≡ get_or terms n t → asks_name t ≡ false → wanted_name (drop (n + 1) terms) ≡ wanted_name (drop n terms)
  named_later t lt is other = sym (named_at t lt is ∙ rw other refl)
