-- Revisions with changes, and what the others leave as it is.
use Rattle.std.proofs.Common.{◌≡◌, ℕ, zero, suc, ◌+◌, ◌-◌, ◌<◌, ◌≤◌, ◌==◌, ◌++◌, inl, inr, Bool, true, false, List, [], ◌∷◌, length, get_or, take, drop, fold, Option, None, All, refl, sym, ap, ◌∙◌, subst, arith, length-take, length-append}
use Rattle.std.specs.List.{filter_map, cons_option}
use Rattle.std.specs.List.Sorted.{IsStrictlySortedBy, IsNonDecreasingBy, IsPartitionPoint}
use Rattle.std.specs.Prelude.{not}
use Rattle.std.proofs.lemmas.Bool.{cases_Bool, cases_lt, ne_eqb}
use Rattle.std.proofs.lemmas.List.{get_or-take, get_or_append_left, get_or-append-add}
use Rattle.std.proofs.lemmas.List.Elements.{All-nil}
use Rattle.kube_meta.specs.Rows.{RowData}
use Rattle.kube_meta.specs.declared.resources.Resource.{Resource}
use Rattle.rev_front.specs.Passes.{quiets}
use Rattle.rev_log.specs.Changes.{ChangeData, RevisionData, HasItsKey}
use Rattle.rev_log.specs.Logs.{AreNumbered, Fits, quiet_at}
use Rattle.rev_log.specs.States.{row_next}
use Rattle.rev_log.proofs.GrowthLemmas.{number_at}
use Rattle.up_api.specs.Feeds.{part_of, unless_empty, changes_of}
use Rattle.up_store.specs.Kept.{are_any, has_changes, with_changes}

-- ---- a revision without changes

pub none_are : (changes : List ChangeData) → are_any changes ≡ false → changes ≡ []
none_are [] none = refl
none_are (change ∷ more) none = cc

pub are_any_is : (changes : List ChangeData) → not (length changes == 0) ≡ are_any changes
are_any_is [] = refl
are_any_is (change ∷ more) = ap not (ne_eqb (length (change ∷ more)) 0 (λ same. absurd (omega (arith, same))))

-- leaves each row
still : (resource : Resource) (key : List ℕ) (row : Option RowData) (r : RevisionData) → has_changes r ≡ false → row_next resource key row r ≡ row
still resource key row r none = ap (λ changes. row_next resource key row (record { rev = r.rev; changes = changes })) (none_are r.changes none)

-- and has no part
no_part : (resource : Resource) (r : RevisionData) → has_changes r ≡ false → part_of resource r ≡ None
no_part resource r none = ap (λ changes. unless_empty r.rev (changes_of resource changes)) (none_are r.changes none)

-- so those with changes leave what all do
pub fold-changed : (resource : Resource) (key : List ℕ) (row : Option RowData) (xs : List RevisionData) → fold (row_next resource key) row (with_changes xs) ≡ fold (row_next resource key) row xs
fold-changed resource key row [] = refl
fold-changed resource key row (r ∷ xs) = elim (cases_Bool (has_changes r)) [
  | inl some ↦ rw some (fold-changed resource key (row_next resource key row r) xs)
  | inr none ↦ rw none (fold-changed resource key row xs ∙ ap (λ x. fold (row_next resource key) x xs) (sym (still resource key row r none)))
]

-- and have all parts
pub parts-changed : (resource : Resource) (xs : List RevisionData) → filter_map (part_of resource) (with_changes xs) ≡ filter_map (part_of resource) xs
parts-changed resource [] = refl
parts-changed resource (r ∷ xs) = elim (cases_Bool (has_changes r)) [
  | inl some ↦ rw some (ap (cons_option (part_of resource r)) (parts-changed resource xs))
  | inr none ↦ rw none (parts-changed resource xs ∙ sym (ap (λ part. cons_option part (filter_map (part_of resource) xs)) (no_part resource r none)))
]

-- ---- quiet revisions

pub quiet-fits : (at : ℕ) → Fits at (quiet_at at)
unfolding IsStrictlySortedBy
quiet-fits at = (refl, record { few = omega arith; rising = tt; numbered = All-nil (λ change. change.rev ≡ at); keyed = All-nil HasItsKey })

pub quiets-length : (from n : ℕ) → length (quiets quiet_at from n) ≡ n
quiets-length from zero = refl
quiets-length from (suc n) = ap suc (quiets-length (from + 1) n)

pub quiets-numbered : (from n : ℕ) → AreNumbered from (quiets quiet_at from n)
quiets-numbered from zero = tt
quiets-numbered from (suc n) = (refl, quiets-numbered (from + 1) n)

pub quiets-none : (from n : ℕ) → with_changes (quiets quiet_at from n) ≡ []
quiets-none from zero = refl
quiets-none from (suc n) = quiets-none (from + 1) n

-- ---- numbers

pub AreNumbered-append : (first : ℕ) (xs ys : List RevisionData) → AreNumbered first xs → AreNumbered (first + length xs) ys → AreNumbered first (xs ++ ys)
AreNumbered-append first [] ys one two = subst (λ n. AreNumbered n ys) (omega arith) two
AreNumbered-append first (x ∷ xs) ys one two = (one.0, AreNumbered-append (first + 1) xs ys one.1 (subst (λ n. AreNumbered n ys) (omega arith) two))

pub AreNumbered-drop : (first n : ℕ) (xs : List RevisionData) → AreNumbered first xs → AreNumbered (first + n) (drop n xs)
AreNumbered-drop first zero xs is = subst (λ n. AreNumbered n xs) (omega arith) is
AreNumbered-drop first (suc n) [] is = tt
AreNumbered-drop first (suc n) (x ∷ xs) is = subst (λ m. AreNumbered m (drop n xs)) (omega arith) (AreNumbered-drop (first + 1) n xs is.1)

pub numbers_rise : (first : ℕ) (xs : List RevisionData) → AreNumbered first xs → IsNonDecreasingBy (λ r. r.rev) xs
numbers_rise first xs is = λ i j d order inside. omega (arith, order, number_at first xs i d is (omega (arith, order, inside)), number_at first xs j d is inside)

pub low_numbers : (first n : ℕ) (xs : List RevisionData) → AreNumbered first xs → All (λ r. r.rev ≤ first + n) (take n xs)
low_numbers first n xs is = λ k d inside.
    let place : (k < n) × (k < length xs) = (omega (arith, inside, length-take n xs), omega (arith, inside, length-take n xs)) in
    omega (arith, ap (λ (r : RevisionData). r.rev) (get_or-take n xs k d place.0), number_at first xs k d is place.1, place.0)

pub high_numbers : (first : ℕ) (xs : List RevisionData) → AreNumbered first xs → All (λ r. first < r.rev) xs
high_numbers first xs is = λ k d inside. omega (arith, number_at first xs k d is inside)

-- the place behind those that pass, where none passes behind them
pub parted : (p : RevisionData → Bool) (a b items : List RevisionData) (n : ℕ) → items ≡ a ++ b → All (λ r. p r ≡ true) a → All (λ r. p r ≡ false) b →
    IsPartitionPoint (λ y. p y ≡ true) (λ y. p y ≡ false) items n → n ≤ length items → n ≡ length a
parted p a b items n is pass fail point within = elim (cases_lt n (length a)) [
  | inl low ↦
      let yes : p (get_or items n (quiet_at 0)) ≡ true = ap p (ap (λ xs. get_or xs n (quiet_at 0)) is ∙ get_or_append_left a b (quiet_at 0) n low) ∙ pass n (quiet_at 0) low in
      let no : p (get_or items n (quiet_at 0)) ≡ false = point.1 n (quiet_at 0) (omega arith) (omega (arith, low, ap length is, long)) in
      absurd (differ (sym yes ∙ no))
  | inr high ↦ elim (cases_lt (length a) n) [
    | inl past ↦
        let yes : p (get_or items (length a) (quiet_at 0)) ≡ true = point.0 (length a) (quiet_at 0) (omega arith) past in
        let at : get_or items (length a) (quiet_at 0) ≡ get_or b 0 (quiet_at 0) =
        ap (λ xs. get_or xs (length a) (quiet_at 0)) is ∙ ap (λ k. get_or (a ++ b) k (quiet_at 0)) {x = length a} {y = length a + 0} (omega arith) ∙ get_or-append-add a b 0 (quiet_at 0) in
        let no : p (get_or items (length a) (quiet_at 0)) ≡ false = ap p at ∙ fail 0 (quiet_at 0) (omega (arith, past, within, ap length is, long)) in
        absurd (differ (sym yes ∙ no))
    | inr same ↦ omega (arith, high, same)
  ]
]
  where
    long : length (a ++ b) ≡ length a + length b
    long = length-append a b

    differ : true ≡ false → ⊥
    differ same = cc

-- ---- the revision at a place among those with changes

-- the others with changes stand on both sides of its number
pub record IsAt (first i : ℕ) (xs : List RevisionData) (r : RevisionData) : Type 0 where
  pub above : first < r.rev
  pub within : r.rev ≤ first + length xs
  pub below : with_changes (take (r.rev - first) xs) ≡ take (suc i) (with_changes xs)
  pub rest : with_changes (drop (r.rev - first) xs) ≡ drop (suc i) (with_changes xs)

with_it : (x : RevisionData) (ys : List RevisionData) → has_changes x ≡ true → with_changes (x ∷ ys) ≡ x ∷ with_changes ys
with_it x ys some = rw some refl

without_it : (x : RevisionData) (ys : List RevisionData) → has_changes x ≡ false → with_changes (x ∷ ys) ≡ with_changes ys
without_it x ys none = rw none refl

is_first : (first : ℕ) (x : RevisionData) (xs : List RevisionData) (r : RevisionData) → has_changes x ≡ true → x.rev ≡ first + 1 → r ≡ x → IsAt first 0 (x ∷ xs) r
is_first first x xs r some number is =
    let same : r.rev ≡ x.rev = ap (λ (y : RevisionData). y.rev) is in
    let one : r.rev - first ≡ 1 = omega (arith, same, number) in
    record {
      above = omega (arith, same, number);
      within = omega (arith, same, number);
      below = ap (λ n. with_changes (take n (x ∷ xs))) one ∙ with_it x [] some ∙ ap (take 1) (sym (with_it x xs some));
      rest = ap (λ n. with_changes (drop n (x ∷ xs))) one ∙ ap (drop 1) (sym (with_it x xs some));
    }

is_later : (first i : ℕ) (x : RevisionData) (xs : List RevisionData) (r : RevisionData) → has_changes x ≡ true → IsAt (first + 1) i xs r → IsAt first (suc i) (x ∷ xs) r
is_later first i x xs r some at =
    let next : r.rev - first ≡ suc (r.rev - (first + 1)) = omega (arith, at.above) in
    record {
      above = omega (arith, at.above);
      within = omega (arith, at.within);
      below = ap (λ n. with_changes (take n (x ∷ xs))) next ∙ with_it x (take (r.rev - (first + 1)) xs) some ∙ ap (λ l. x ∷ l) at.below ∙ ap (take (suc (suc i))) (sym (with_it x xs some));
      rest = ap (λ n. with_changes (drop n (x ∷ xs))) next ∙ at.rest ∙ ap (drop (suc (suc i))) (sym (with_it x xs some));
    }

is_beyond : (first i : ℕ) (x : RevisionData) (xs : List RevisionData) (r : RevisionData) → has_changes x ≡ false → IsAt (first + 1) i xs r → IsAt first i (x ∷ xs) r
is_beyond first i x xs r none at =
    let next : r.rev - first ≡ suc (r.rev - (first + 1)) = omega (arith, at.above) in
    record {
      above = omega (arith, at.above);
      within = omega (arith, at.within);
      below = ap (λ n. with_changes (take n (x ∷ xs))) next ∙ without_it x (take (r.rev - (first + 1)) xs) none ∙ at.below ∙ ap (take (suc i)) (sym (without_it x xs none));
      rest = ap (λ n. with_changes (drop n (x ∷ xs))) next ∙ at.rest ∙ ap (drop (suc i)) (sym (without_it x xs none));
    }

pub found-at : (first i : ℕ) (xs : List RevisionData) (r : RevisionData) → AreNumbered first xs → i < length (with_changes xs) → r ≡ get_or (with_changes xs) i r → IsAt first i xs r
found-at first i [] r numbered inside is = absurd (omega (arith, inside))
found-at first zero (x ∷ xs) r numbered inside is = elim (cases_Bool (has_changes x)) [
  | inl some ↦ is_first first x xs r some numbered.0 (is ∙ ap (λ l. get_or l 0 r) (with_it x xs some))
  | inr none ↦
      is_beyond first 0 x xs r none
      (found-at (first + 1) 0 xs r numbered.1 (subst (λ l. 0 < length l) (without_it x xs none) inside) (is ∙ ap (λ l. get_or l 0 r) (without_it x xs none)))
]
found-at first (suc i) (x ∷ xs) r numbered inside is = elim (cases_Bool (has_changes x)) [
  | inl some ↦
      is_later first i x xs r some
      (found-at (first + 1) i xs r numbered.1 (omega (arith, inside, ap length (with_it x xs some))) (is ∙ ap (λ l. get_or l (suc i) r) (with_it x xs some)))
  | inr none ↦
      is_beyond first (suc i) x xs r none
      (found-at (first + 1) (suc i) xs r numbered.1 (subst (λ l. suc i < length l) (without_it x xs none) inside) (is ∙ ap (λ l. get_or l (suc i) r) (without_it x xs none)))
]
