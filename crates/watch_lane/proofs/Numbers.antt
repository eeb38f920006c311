-- Numbers that are compared, and sets of them that are told by what they have.
use Rattle.std.proofs.Common.{◌≡◌, ◌==◌, ◌||◌, ◌&&◌, not, ℕ, ◌+◌, Bool, false, cond, List, [], ◌∷◌, ◌++◌, length, refl, arith, ap}
use Rattle.std.specs.Ordering.{is_eq, nat_cmp}
use Rattle.std.specs.BTreeSet.{BTreeSet, contains}
use Rattle.std.specs.List.{list_any}
use Rattle.std.specs.List.Sorted.{IsStrictlySortedBy, IsStrictlyIncreasing}
use Rattle.std.proofs.lemmas.Map.Keys.{below_from_sorted}

pub is_eq-nat_cmp : (a b : ℕ) → is_eq (nat_cmp a b) ≡ (a == b)
is_eq-nat_cmp a b = grind (arith)

pub list_any-append : (test : ℕ → Bool) (xs : List ℕ) (x : ℕ) → list_any test (xs ++ x ∷ []) ≡ list_any test xs || test x
list_any-append test [] x = grind (arith)
list_any-append test (y ∷ ys) x = grind (arith, list_any-append test ys x)

pub increasing_from_sorted : (xs : List ℕ) → IsStrictlySortedBy nat_cmp xs → IsStrictlyIncreasing xs
increasing_from_sorted xs s = λ k h. below_from_sorted xs k (k + 1) 0 s (omega arith) h

pub empty_from_length : (xs : List ℕ) → length xs ≡ 0 → xs ≡ []
empty_from_length [] h = refl
empty_from_length (x ∷ xs) h = absurd (omega (arith, h))

pub none_in_empty : (ids : BTreeSet ℕ) (id : ℕ) → ids.keys ≡ [] → contains nat_cmp ids id ≡ false
none_in_empty ids id none = ap (λ keys. list_any (λ k. is_eq (nat_cmp id k)) keys) none

-- a set that was left by its only number had no other
pub only_was : (old new : BTreeSet ℕ) (id i : ℕ) → length new.keys ≡ 0 → contains nat_cmp new i ≡ cond (is_eq (nat_cmp id i)) false (contains nat_cmp old i) → (not (id == i) && contains nat_cmp old i) ≡ false
only_was old new id i none removed = grind (arith, removed, is_eq-nat_cmp id i, none_in_empty new i (empty_from_length new.keys none))
