-- Lists in order, and what a test keeps of a list.
use Rattle.std.proofs.Common.{◌≡◌, zero, suc, Bool, true, false, ◌⊎◌, inl, inr, List, [], ◌∷◌, refl, sym, ap, ◌∙◌, subst, Less, Greater, Ordering, arith}
use Rattle.std.specs.Prelude.{filter}
use Rattle.std.specs.List.{AllByRecursion, Contains}
use Rattle.std.specs.List.Sorted.{IsStrictlySortedBy, IsPermutation}
use Rattle.std.specs.Cmp.{IsTotalOrder}
use Rattle.std.specs.Ordering.{ordering_reverse}
use Rattle.std.proofs.lemmas.List.Sorted.{Contains-permutation, IsPermutation-sym}

-- ---- what a test keeps

module _ {X : Type 0} (p : X → Bool) where
  pub none_kept : (xs : List X) → AllByRecursion (λ x. p x ≡ false) xs → filter p xs ≡ []
  none_kept [] all = refl
  none_kept (x ∷ xs) all = rw (all.0) (none_kept xs all.1)

  pub all_kept : (xs : List X) → AllByRecursion (λ x. p x ≡ true) xs → filter p xs ≡ xs
  all_kept [] all = refl
  all_kept (x ∷ xs) all = rw (all.0) (ap (λ (rest : List X). x ∷ rest) (all_kept xs all.1))

-- ---- lists in order

module _ {X : Type 0} where
  among : (y z : X) (ys : List X) → Contains (y ∷ ys) z → (y ≡ z) ⊎ Contains ys z
  among y z ys (zero, inside, is) = inl is
  among y z ys (suc k, inside, is) = inr (k, omega (arith, inside), is)

  behind : (y z : X) (ys : List X) → Contains ys z → Contains (y ∷ ys) z
  behind y z ys (k, inside, is) = (suc k, omega (arith, inside), is)

  heads : (y : X) (ys : List X) → Contains (y ∷ ys) y
  heads y ys = (zero, omega arith, refl)

  none_among : (z : X) → Contains [] z → ⊥
  none_among z (k, inside, is) = absurd (omega (arith, inside))

  module _ (c : X → X → Ordering) (total : IsTotalOrder c) where
    one_way : (a b : X) → c a b ≡ Less → c b a ≡ Less → ⊥
    one_way a b below above =
        let less : Less ≡ Greater = sym above ∙ total.antisymm b a ∙ ap ordering_reverse below in cc

    above : (x : X) (xs : List X) → AllByRecursion (λ y. c x y ≡ Less) xs → (z : X) → Contains xs z → c x z ≡ Less
    above x [] all z there = absurd (none_among z there)
    above x (y ∷ ys) all z (zero, inside, is) = subst (λ w. c x w ≡ Less) is all.0
    above x (y ∷ ys) all z (suc k, inside, is) = above x ys all.1 z (k, omega (arith, inside), is)

    -- two lists in order that have the same elements
    in_one_order : (xs ys : List X) → IsStrictlySortedBy c xs → IsStrictlySortedBy c ys → ((z : X) → Contains xs z → Contains ys z) → ((z : X) → Contains ys z → Contains xs z) → xs ≡ ys
    unfolding IsStrictlySortedBy
    in_one_order [] [] up down there back = refl
    in_one_order [] (y ∷ ys) up down there back = absurd (none_among y (back y (heads y ys)))
    in_one_order (x ∷ xs) [] up down there back = absurd (none_among x (there x (heads x xs)))
    in_one_order (x ∷ xs) (y ∷ ys) up down there back =
        let same : x ≡ y = first in
        ap (λ h. h ∷ xs) same ∙ ap (λ t. y ∷ t) (in_one_order xs ys up.1 down.1 (λ z in_xs. later same z in_xs) (λ z in_ys. earlier same z in_ys))
      where
        first : x ≡ y
        first = elim (among y x ys (there x (heads x xs))) [
          | inl is ↦ sym is
          | inr x_below ↦ elim (among x y xs (back y (heads y ys))) [
            | inl is ↦ is
            | inr y_below ↦ absurd (one_way x y (above x xs up.0 y y_below) (above y ys down.0 x x_below))
          ]
        ]

        later : x ≡ y → (z : X) → Contains xs z → Contains ys z
        later same z in_xs = elim (among y z ys (there z (behind x z xs in_xs))) [
          | inl is ↦ absurd (let less : c x x ≡ Less = subst (λ w. c x w ≡ Less) (sym (same ∙ is)) (above x xs up.0 z in_xs) in one_way x x less less)
          | inr rest ↦ rest
        ]

        earlier : x ≡ y → (z : X) → Contains ys z → Contains xs z
        earlier same z in_ys = elim (among x z xs (back z (behind y z ys in_ys))) [
          | inl is ↦ absurd (let less : c y y ≡ Less = subst (λ w. c y w ≡ Less) (sym (sym same ∙ is)) (above y ys down.0 z in_ys) in one_way y y less less)
          | inr rest ↦ rest
        ]

    pub sorted_alike : (xs ys : List X) → IsStrictlySortedBy c xs → IsStrictlySortedBy c ys → IsPermutation xs ys → xs ≡ ys
    sorted_alike xs ys up down moved =
        in_one_order xs ys up down
        (λ z there. Contains-permutation xs ys z moved there)
        (λ z there. Contains-permutation ys xs z (IsPermutation-sym xs ys moved) there)
