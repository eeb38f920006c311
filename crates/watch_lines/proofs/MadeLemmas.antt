-- Texts made of pieces.
use Rattle.std.proofs.Common.{◌≡◌, ◌↔◌, ℕ, ◌+◌, ◌<◌, ◌≤◌, List, [], ◌++◌, length, get_or, drop, Bor, Bool, IsTrue, bytes_eq, ◌≢◌, sym, ap, ◌∙◌, append_assoc}
use Rattle.std.specs.List.{flat_map}
use Rattle.std.proofs.lemmas.List.{append_cancel_left, at_drop_more, at_drop_all}
use Rattle.std.proofs.lemmas.Slice.Eq.{bytes_eq-Decides}

abbrev pub made : List (Bor (List ℕ)) → List ℕ
made pieces = flat_map (λ (piece : Bor (List ℕ)). piece.now) pieces

-- what stands behind the first piece
pub made_more : (piece others rest more last : List ℕ) → rest ≡ piece ++ more → (rest ≡ (piece ++ others) ++ last) ↔ (more ≡ others ++ last)
made_more piece others rest more last is = (
  λ e. append_cancel_left piece more (others ++ last) (sym is ∙ e ∙ append_assoc piece others last),
  λ e. is ∙ ap (λ (l : List ℕ). piece ++ l) e ∙ sym (append_assoc piece others last),
)

-- one piece more
pub made_step : (pieces : List (Bor (List ℕ))) (i : ℕ) (d : Bor (List ℕ)) (text rest more last : List ℕ) → i < length pieces → rest ≡ (get_or pieces i d).now ++ more
    → (text ≡ made pieces ++ last) ↔ (rest ≡ made (drop i pieces) ++ last) → (text ≡ made pieces ++ last) ↔ (more ≡ made (drop (i + 1) pieces) ++ last)
made_step pieces i d text rest more last inside is before =
    let turn : made (drop i pieces) ≡ (get_or pieces i d).now ++ made (drop (i + 1) pieces) = at_drop_more made pieces i d inside in
    let step = made_more (get_or pieces i d).now (made (drop (i + 1) pieces)) rest more last is in (
      λ e. step.0 (before.0 e ∙ ap (λ (l : List ℕ). l ++ last) turn),
      λ e. before.1 (step.1 e ∙ ap (λ (l : List ℕ). l ++ last) (sym turn)),
    )

-- where a text doesn't begin so
pub front_none : (text piece front rest : List ℕ) → piece ≡ front → ((more : List ℕ) → text ≢ piece ++ more) → text ≡ front ++ rest → ⊥
front_none text piece front rest same none e = none rest (e ∙ ap (λ (l : List ℕ). l ++ rest) (sym same))

-- where none is left
pub made_all : (pieces : List (Bor (List ℕ))) (i : ℕ) (text rest last : List ℕ) (r : Bool) → length pieces ≤ i → r ≡ bytes_eq rest last
    → (text ≡ made pieces ++ last) ↔ (rest ≡ made (drop i pieces) ++ last) → IsTrue r ↔ (text ≡ made pieces ++ last)
made_all pieces i text rest last r past is before =
    let none : made (drop i pieces) ≡ [] = at_drop_all made pieces i past in (
      λ same. before.1 ((bytes_eq-Decides rest last).0 (sym is ∙ same) ∙ ap (λ (l : List ℕ). l ++ last) (sym none)),
      λ e. is ∙ (bytes_eq-Decides rest last).1 (before.0 e ∙ ap (λ (l : List ℕ). l ++ last) none),
    )
