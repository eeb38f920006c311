-- Revisions that are in order.
use Rattle.std.proofs.Common.{◌≡◌, ◌⊎◌, ℕ, ◌+◌, ◌<◌, Bool, true, false, List, [], ◌∷◌, length, get_or, IsTrue, refl, sym, ap, ◌∙◌, subst, inl, inr, Less, Equal, Greater, Ordering, arith}
use Rattle.std.specs.Prelude.{◌↔◌, IsPermutation}
use Rattle.std.specs.List.{swap, AllAdjacentBelow, IsAllAdjacentAnswer}
use Rattle.std.specs.List.Sorted.{IsStrictlySortedBy, IsSortedBy}
use Rattle.std.specs.Cmp.{IsTotalOrder, IsStrictWeakOrder}
use Rattle.std.specs.Cmp.Lexicographic.{slice_cmp}
use Rattle.std.specs.Ordering.{nat_cmp, is_lt, ordering_then, ordering_reverse}
use Rattle.std.specs.FinMap.{nat_cmp-IsAntisymmetric, slice_cmp-IsAntisymmetric}
use Rattle.std.proofs.lemmas.Bool.{cases_order, eq-eqb, true≢false}
use Rattle.std.proofs.lemmas.Cmp.{nat_eq_equiv, nat_list_eq_equiv, nat_cmp_total, nat_list_cmp_total, on_total, then_total}
use Rattle.std.proofs.lemmas.List.Edits.{swapped_from_swap, length-swap}
use Rattle.std.proofs.lemmas.List.Elements.{All-cons, All-nil}
use Rattle.std.proofs.lemmas.List.MinMax.{ranks_by}
use Rattle.std.proofs.lemmas.List.Sorted.{IsPermutation-keeps}
use Rattle.std.proofs.lemmas.Map.Keys.{sorted_from_all_adjacent, Less-from_sorted}
use Rattle.std.proofs.lemmas.Slice.Eq.{bytes_eq-Decides}
use Rattle.kube_meta.specs.Resources.{place_of}
use Rattle.rev_log.specs.Changes.{ChangeData, HasItsKey, change_cmp, same_object, AreOfDistinctObjects, IsRevision}

rising-single : (change : ChangeData) → IsStrictlySortedBy change_cmp (change ∷ [])
unfolding IsStrictlySortedBy
rising-single change = (tt, tt)

-- one change is a revision
pub IsRevision-single : (change : ChangeData) → HasItsKey change → IsRevision (record { rev = change.rev; changes = change ∷ [] })
IsRevision-single change keyed = record {
  few = omega arith;
  rising = rising-single change;
  numbered = All-cons (λ c. c.rev ≡ change.rev) change [] refl (All-nil (λ c. c.rev ≡ change.rev));
  keyed = All-cons HasItsKey change [] keyed (All-nil HasItsKey);
}

-- ---- the order of changes

pub change_total : IsTotalOrder change_cmp
change_total = then_total (on_total (λ (c : ChangeData). place_of c.resource) nat_cmp_total) (on_total (λ (c : ChangeData). c.key) nat_list_cmp_total)

pub change_weak : IsStrictWeakOrder (λ a b. is_lt (change_cmp a b))
change_weak = ranks_by change_total (λ c. c)

less_of : (o : Ordering) → true ≡ is_lt o → o ≡ Less
less_of Less e = refl
less_of Equal e = absurd (cc)
less_of Greater e = absurd (cc)

sorted : (xs : List ChangeData) → AllAdjacentBelow (λ a b. change_cmp a b ≡ Less) xs (length xs) → IsStrictlySortedBy change_cmp xs
unfolding IsStrictlySortedBy
sorted [] adjacent = tt
sorted (x ∷ xs) adjacent = sorted_from_all_adjacent change_total (x ∷ xs) x (λ k inside. adjacent k x inside)

some_change : (xs : List ChangeData) (k : ℕ) → k < length xs → ChangeData
some_change [] k inside = absurd (omega arith)
some_change (x ∷ xs) k inside = x

-- what a test of neighbours tells
pub in_order : (xs : List ChangeData) (r : Bool) → IsAllAdjacentAnswer (λ a b t. t ≡ is_lt (change_cmp a b)) xs r → IsTrue r ↔ IsStrictlySortedBy change_cmp xs
in_order xs true all = (λ passes. sorted xs (λ k d inside. less_of (change_cmp (get_or xs k d) (get_or xs (k + 1) d)) (all k d inside)), λ rising. refl)
in_order xs false some = (
  λ passes. absurd (true≢false (sym passes)),
  λ rising.
      let d = some_change xs some.0 (omega (arith, some.1)) in
      let less = Less-from_sorted change_cmp xs some.0 (some.0 + 1) d rising (omega arith) some.1 in
      let bad : false ≡ true = some.2 d ∙ ap is_lt less in
      absurd (true≢false (sym bad)),
)

-- ---- changes that were sorted

then_equal : (p q : Ordering) → ordering_then p q ≡ Equal → (p ≡ Equal) × (q ≡ Equal)
then_equal Less q e = absurd (cc)
then_equal Equal q e = (refl, e)
then_equal Greater q e = absurd (cc)

-- changes that tie are of one object
tied : (a b : ChangeData) → change_cmp a b ≡ Equal → same_object a b ≡ true
tied a b e =
    let both = then_equal (nat_cmp (place_of a.resource) (place_of b.resource)) (slice_cmp nat_cmp a.key b.key) e in
    let place : place_of a.resource ≡ place_of b.resource = nat_cmp-IsAntisymmetric (place_of a.resource) (place_of b.resource) both.0 in
    let key : a.key ≡ b.key = slice_cmp-IsAntisymmetric nat_cmp-IsAntisymmetric a.key b.key both.1 in
    rw (eq-eqb (place_of a.resource) (place_of b.resource) place, (bytes_eq-Decides a.key b.key).1 key) refl

-- neighbours of which the second isn't less, of two objects
next_less : (a b : ChangeData) → is_lt (change_cmp b a) ≡ false → same_object a b ≡ false → change_cmp a b ≡ Less
next_less a b not_less apart = by (change_cmp a b) refl
  where
    by : (o : Ordering) → change_cmp a b ≡ o → change_cmp a b ≡ Less
    by Less e = e
    by Equal e = absurd (true≢false (sym (tied a b e) ∙ apart))
    by Greater e =
        let turned : change_cmp b a ≡ Less = change_total.antisymm b a ∙ ap ordering_reverse e in
        absurd (true≢false (sym (ap is_lt turned) ∙ not_less))

-- ---- no object comes twice, in another order

same_back : (a b : ChangeData) → same_object a b ≡ false → same_object b a ≡ false
same_back a b apart = rw (nat_eq_equiv.symm (place_of b.resource) (place_of a.resource), nat_list_eq_equiv.symm b.key a.key) apart

-- two places of a list, whichever is first
any_two : (l : List ChangeData) (m n : ℕ) (d : ChangeData) → AreOfDistinctObjects l → m < length l → n < length l → (m ≡ n → ⊥) → same_object (get_or l m d) (get_or l n d) ≡ false
any_two l m n d distinct m_in n_in differs = elim (cases_order m n) [
  | inl same ↦ absurd (differs same)
  | inr (inl less) ↦ distinct m n d less n_in
  | inr (inr more) ↦ same_back (get_or l n d) (get_or l m d) (distinct n m d more m_in)
]

-- where an element of the list after an exchange stood before it
abbrev From : ℕ → ℕ → ℕ → ℕ → Type 0
From i j m k = ((m ≡ i) × (k ≡ j)) ⊎ (((m ≡ j) × (k ≡ i)) ⊎ ((k ≡ m) × (m ≡ i → ⊥) × (m ≡ j → ⊥)))

record Stood (l : List ChangeData) (i j m : ℕ) (d : ChangeData) : Type 0 where
  k : ℕ
  inside : k < length l
  is : get_or (swap l i j) m d ≡ get_or l k d
  from : From i j m k

stood : (l : List ChangeData) (i j m : ℕ) (d : ChangeData) → i < length l → j < length l → m < length l → Stood l i j m d
stood l i j m d i_in j_in m_in =
    let moved = swapped_from_swap l (swap l i j) i j d i_in j_in refl in
    elim (cases_order m i) [
      | inl here ↦ record { k = j; inside = j_in; is = ap (λ n. get_or (swap l i j) n d) here ∙ moved.0; from = inl (here, refl) }
      | inr other ↦ elim (cases_order m j) [
        | inl there ↦ record { k = i; inside = i_in; is = ap (λ n. get_or (swap l i j) n d) there ∙ moved.1; from = inr (inl (there, refl)) }
        | inr past ↦
            let not_i : m ≡ i → ⊥ = λ e. elim other [ inl less ↦ absurd (omega (arith, e, less)) | inr more ↦ absurd (omega (arith, e, more)) ] in
            let not_j : m ≡ j → ⊥ = λ e. elim past [ inl less ↦ absurd (omega (arith, e, less)) | inr more ↦ absurd (omega (arith, e, more)) ] in
            record { k = m; inside = m_in; is = moved.2 m not_i not_j; from = inr (inr (refl, not_i, not_j)) }
      ]
    ]

one_place : (i j m n k : ℕ) → From i j m k → From i j n k → m ≡ n
one_place i j m n k (inl a) (inl b) = a.0 ∙ sym b.0
one_place i j m n k (inl a) (inr (inl b)) = a.0 ∙ sym b.1 ∙ a.1 ∙ sym b.0
one_place i j m n k (inl a) (inr (inr b)) = absurd (b.2 (sym b.0 ∙ a.1))
one_place i j m n k (inr (inl a)) (inl b) = a.0 ∙ sym b.1 ∙ a.1 ∙ sym b.0
one_place i j m n k (inr (inl a)) (inr (inl b)) = a.0 ∙ sym b.0
one_place i j m n k (inr (inl a)) (inr (inr b)) = absurd (b.1 (sym b.0 ∙ a.1))
one_place i j m n k (inr (inr a)) (inl b) = absurd (a.2 (sym a.0 ∙ b.1))
one_place i j m n k (inr (inr a)) (inr (inl b)) = absurd (a.1 (sym a.0 ∙ b.1))
one_place i j m n k (inr (inr a)) (inr (inr b)) = sym a.0 ∙ b.0

exchanged : (l : List ChangeData) (i j : ℕ) → i < length l → j < length l → AreOfDistinctObjects l → AreOfDistinctObjects (swap l i j)
exchanged l i j i_in j_in distinct m n d less n_in =
    let long : length (swap l i j) ≡ length l = length-swap l i j in
    let a = stood l i j m d i_in j_in (omega (arith, long)) in
    let b = stood l i j n d i_in j_in (omega (arith, long)) in
    let apart : a.k ≡ b.k → ⊥ = λ same.
    let one = one_place i j m n a.k a.from (subst (From i j n) (sym same) b.from) in
    absurd (omega (arith, one)) in
    rw (a.is, b.is) (any_two l a.k b.k d distinct a.inside b.inside apart)

pub distinct_in_any_order : (xs ys : List ChangeData) → IsPermutation xs ys → AreOfDistinctObjects xs → AreOfDistinctObjects ys
distinct_in_any_order xs ys perm distinct = IsPermutation-keeps xs AreOfDistinctObjects distinct exchanged ys perm

pub sorted_rise : (xs ys : List ChangeData) → IsPermutation xs ys → AreOfDistinctObjects xs → IsSortedBy (λ a b. is_lt (change_cmp a b)) ys → IsStrictlySortedBy change_cmp ys
sorted_rise xs ys perm distinct up =
    let apart = distinct_in_any_order xs ys perm distinct in
    sorted ys (λ k d inside. next_less (get_or ys k d) (get_or ys (k + 1) d) (up k d (omega arith) inside) (apart k (k + 1) d (omega arith) inside))
