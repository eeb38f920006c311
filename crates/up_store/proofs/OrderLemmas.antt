-- The changes of a revision have one order.
use Rattle.std.proofs.Common.{◌≡◌, zero, suc, ◌⊎◌, inl, inr, List, [], ◌∷◌, map, refl, sym, ap, ◌∙◌, subst, arith}
use Rattle.std.specs.List.{AllByRecursion, Contains}
use Rattle.std.specs.List.Sorted.{IsStrictlySortedBy, IsPermutation}
use Rattle.std.specs.Ordering.{ordering_reverse}
use Rattle.std.specs.declared.cmp.Ordering.TheVariants.{Less, Greater}
use Rattle.std.proofs.lemmas.List.Sorted.{Contains-permutation, IsPermutation-sym, IsPermutation-trans}
use Rattle.rev_log.specs.Changes.{ChangeData, change_cmp}
use Rattle.rev_log.proofs.ChangeLemmas.{change_total}
use Rattle.up_store.specs.Transacting.{RevisionsOfAreUnique}
use Rattle.up_store.specs.Writes.{change_of}

-- none of two changes is below the other and above it
one_way : (a b : ChangeData) → change_cmp a b ≡ Less → change_cmp b a ≡ Less → ⊥
one_way a b below above =
    let less : Less ≡ Greater = sym above ∙ change_total.antisymm b a ∙ ap ordering_reverse below in cc

among : {X : Type 0} (y z : X) (ys : List X) → Contains (y ∷ ys) z → (y ≡ z) ⊎ Contains ys z
among y z ys (zero, inside, is) = inl is
among y z ys (suc k, inside, is) = inr (k, omega (arith, inside), is)

behind : {X : Type 0} (y z : X) (ys : List X) → Contains ys z → Contains (y ∷ ys) z
behind y z ys (k, inside, is) = (suc k, omega (arith, inside), is)

heads : {X : Type 0} (y : X) (ys : List X) → Contains (y ∷ ys) y
heads y ys = (zero, omega arith, refl)

none-among : {X : Type 0} (z : X) → Contains [] z → ⊥
none-among z (k, inside, is) = absurd (omega (arith, inside))

above : (x : ChangeData) (xs : List ChangeData) → AllByRecursion (λ y. change_cmp x y ≡ Less) xs → (z : ChangeData) → Contains xs z → change_cmp x z ≡ Less
above x [] all z there = absurd (none-among z there)
above x (y ∷ ys) all z (zero, inside, is) = subst (λ w. change_cmp x w ≡ Less) is all.0
above x (y ∷ ys) all z (suc k, inside, is) = above x ys all.1 z (k, omega (arith, inside), is)

-- behind one first change, which none of the others is, the same changes stand
rest : (x y : ChangeData) (xs ys : List ChangeData) → x ≡ y → AllByRecursion (λ w. change_cmp x w ≡ Less) xs →
    ((z : ChangeData) → Contains (x ∷ xs) z → Contains (y ∷ ys) z) →
    (z : ChangeData) → Contains xs z → Contains ys z
rest x y xs ys same up there z in_xs = elim (among y z ys (there z (behind x z xs in_xs))) [
  | inl is ↦ absurd (let less : change_cmp x x ≡ Less = subst (λ w. change_cmp x w ≡ Less) (sym (same ∙ is)) (above x xs up z in_xs) in one_way x x less less)
  | inr more ↦ more
]

-- changes in order that are the same changes
in-one-order : (xs ys : List ChangeData) → IsStrictlySortedBy change_cmp xs → IsStrictlySortedBy change_cmp ys → ((z : ChangeData) → Contains xs z → Contains ys z) → ((z : ChangeData) → Contains ys z → Contains xs z) → xs ≡ ys
unfolding IsStrictlySortedBy
in-one-order [] [] up down there back = refl
in-one-order [] (y ∷ ys) up down there back = absurd (none-among y (back y (heads y ys)))
in-one-order (x ∷ xs) [] up down there back = absurd (none-among x (there x (heads x xs)))
in-one-order (x ∷ xs) (y ∷ ys) up down there back =
    let same : x ≡ y = first in
    ap (λ h. h ∷ xs) same ∙ ap (λ t. y ∷ t) (in-one-order xs ys up.1 down.1 (rest x y xs ys same up.0 there) (rest y x ys xs (sym same) down.0 back))
  where
    first : x ≡ y
    first = elim (among y x ys (there x (heads x xs))) [
      | inl is ↦ sym is
      | inr x_below ↦ elim (among x y xs (back y (heads y ys))) [
        | inl is ↦ is
        | inr y_below ↦ absurd (one_way x y (above x xs up.0 y y_below) (above y ys down.0 x x_below))
      ]
    ]

-- there is one revision of some writes after a log
pub revisions_are_one : RevisionsOfAreUnique
revisions_are_one log asks r other is also =
    let number : r.rev ≡ other.rev = is.number ∙ sym also.number in
    let again : IsPermutation (map (change_of r.rev) asks) other.changes =
    subst (λ n. IsPermutation (map (change_of n) asks) other.changes) (sym number) also.changes in
    let moved : IsPermutation r.changes other.changes =
    IsPermutation-trans r.changes (map (change_of r.rev) asks) other.changes (IsPermutation-sym (map (change_of r.rev) asks) r.changes is.changes) again in
    let changes : r.changes ≡ other.changes =
    in-one-order r.changes other.changes is.is.rising also.is.rising (λ z. Contains-permutation r.changes other.changes z moved)
    (λ z. Contains-permutation other.changes r.changes z (IsPermutation-sym r.changes other.changes moved)) in
    λ i. record { rev = number i; changes = changes i }
