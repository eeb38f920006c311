-- What a search finds among sorted labels, and what an edit at that place does.
use Rattle.std.proofs.Common.{◌≡◌, ◌≢◌, ℕ, zero, suc, ◌-◌, ◌<◌, ◌≤◌, Bool, true, false, cond, List, [], ◌∷◌, length, get_or, set, Some, None, Result, Ok, Err, IfOk, IfErr, refl, sym, ap, ◌∙◌, subst, inl, inr, Less, Equal, Greater, Ordering, arith, bytes_eq}
use Rattle.std.specs.List.{insert}
use Rattle.std.specs.List.Sorted.{IsSearchInRange, IsBinarySearchResult, IsNonDecreasingBy}
use Rattle.std.specs.Ordering.{nat_cmp, ordering_index, ordering_reverse}
use Rattle.std.specs.Cmp.Lexicographic.{slice_cmp}
use Rattle.std.specs.FinMap.{nat_cmp-IsAntisymmetric, slice_cmp-IsAntisymmetric}
use Rattle.std.proofs.lemmas.Cmp.{nat_list_cmp_total}
use Rattle.std.proofs.lemmas.Bool.{false_from_ne_true, cases_lt, true≢false}
use Rattle.std.proofs.lemmas.Slice.Eq.{bytes_eq-Decides}
use Rattle.std.proofs.lemmas.List.Sorted.{IsNonDecreasingBy-from_default}
use Rattle.kube_meta.specs.Labels.{Pairs, value_at, name_at, IsBefore, AreSorted, PutsOnly, IsAt, IsGapFor}

-- ---- texts

same_text : (a b : List ℕ) → slice_cmp nat_cmp a b ≡ Equal → a ≡ b
same_text a b tie = slice_cmp-IsAntisymmetric nat_cmp-IsAntisymmetric a b tie

-- a text is not before itself
before_self : (a b : List ℕ) → IsBefore a b → a ≡ b → ⊥
before_self a b below same =
    let flipped = nat_list_cmp_total.antisymm a b in
    let there : slice_cmp nat_cmp b a ≡ Less = subst (λ (x : List ℕ). slice_cmp nat_cmp x a ≡ Less) same (subst (λ (x : List ℕ). slice_cmp nat_cmp a x ≡ Less) (sym same) below) in
    absurd (cc)

-- the other way round
after_from_before : (a b : List ℕ) → slice_cmp nat_cmp a b ≡ Less → slice_cmp nat_cmp b a ≡ Greater
after_from_before a b below = nat_list_cmp_total.antisymm b a ∙ ap ordering_reverse below

before_from_after : (a b : List ℕ) → slice_cmp nat_cmp a b ≡ Greater → slice_cmp nat_cmp b a ≡ Less
before_from_after a b above = nat_list_cmp_total.antisymm b a ∙ ap ordering_reverse above

before_trans : (a b c : List ℕ) → IsBefore a b → IsBefore b c → IsBefore a c
before_trans a b c = nat_list_cmp_total.trans a b c

other_text : (a b : List ℕ) → a ≢ b → bytes_eq a b ≡ false
other_text a b differs = false_from_ne_true (bytes_eq a b) (λ passes. differs ((bytes_eq-Decides a b).0 passes))

-- ---- what is found

-- no label before place i has the name
abbrev pub NoNameBefore : Pairs → List ℕ → ℕ → Type 0
NoNameBefore l name i = (j : ℕ) → j < i → name_at l j ≢ name

no_name_in_tail : (x : List ℕ × List ℕ) (l : Pairs) (name : List ℕ) (i : ℕ) → NoNameBefore (x ∷ l) name (suc i) → NoNameBefore l name i
no_name_in_tail x l name i none j lt = none (suc j) (omega arith)

first_differs : (x : List ℕ × List ℕ) (l : Pairs) (name : List ℕ) (i : ℕ) → NoNameBefore (x ∷ l) name (suc i) → bytes_eq name x.0 ≡ false
first_differs x l name i none = other_text name x.0 (λ same. none 0 (omega arith) (sym same))

pub value_absent : (l : Pairs) (name : List ℕ) → NoNameBefore l name (length l) → value_at l name ≡ None
value_absent [] name none = refl
value_absent (x ∷ l) name none =
    rw (first_differs x l name (length l) none) (value_absent l name (no_name_in_tail x l name (length l) none))

pub value_present : (l : Pairs) (name : List ℕ) (i : ℕ) → i < length l → name_at l i ≡ name → NoNameBefore l name i → value_at l name ≡ Some (get_or l i ([], [])).1
value_present [] name i inside has none = absurd (omega arith)
value_present (x ∷ l) name zero inside has none = rw ((bytes_eq-Decides name x.0).1 (sym has)) refl
value_present (x ∷ l) name (suc i) inside has none =
    rw (first_differs x l name i none) (value_present l name i (omega arith) has (no_name_in_tail x l name i none))

-- writing over the first label of the name, or adding one before any of the name, changes what is found there alone
abbrev pub Updates : Pairs → Pairs → List ℕ → List ℕ → Type 0
Updates old new name value = (other : List ℕ) → value_at new other ≡ cond (bytes_eq other name) (Some value) (value_at old other)

kept : {A : Type 0} (here this : Bool) (x v w : A) → (here ≡ true → this ≡ true → ⊥) → cond here x (cond this v w) ≡ cond this v (cond here x w)
kept true true x v w apart = absurd (apart refl refl)
kept true false x v w apart = refl
kept false this x v w apart = refl

-- one text isn't two
apart : (other name here : List ℕ) → bytes_eq name here ≡ false → bytes_eq other here ≡ true → bytes_eq other name ≡ true → ⊥
apart other name here differs one two =
    let first : other ≡ here = (bytes_eq-Decides other here).0 one in
    let second : other ≡ name = (bytes_eq-Decides other name).0 two in
    let same : bytes_eq name here ≡ true = (bytes_eq-Decides name here).1 (sym second ∙ first) in
    true≢false (sym same ∙ differs)

updates_set : (l : Pairs) (name value : List ℕ) (i : ℕ) → i < length l → name_at l i ≡ name → NoNameBefore l name i → Updates l (set l i (name, value)) name value
updates_set [] name value i inside has none other = absurd (omega arith)
updates_set (x ∷ l) name value zero inside has none other = rw has (same_twice (bytes_eq other name) (Some value) (Some x.1) (value_at l other))
  where
    same_twice : {A : Type 0} (b : Bool) (x y z : A) → cond b x z ≡ cond b x (cond b y z)
    same_twice true x y z = refl
    same_twice false x y z = refl
updates_set (x ∷ l) name value (suc i) inside has none other =
    rw (updates_set l name value i (omega arith) has (no_name_in_tail x l name i none) other)
    (kept (bytes_eq other x.0) (bytes_eq other name) (Some x.1) (Some value) (value_at l other) (apart other name x.0 (first_differs x l name i none)))

updates_insert : (l : Pairs) (name value : List ℕ) (i : ℕ) → NoNameBefore l name i → Updates l (insert l i (name, value)) name value
updates_insert l name value zero none other = refl
updates_insert [] name value (suc i) none other = refl
updates_insert (x ∷ l) name value (suc i) none other =
    rw (updates_insert l name value i (no_name_in_tail x l name i none) other)
    (kept (bytes_eq other x.0) (bytes_eq other name) (Some x.1) (Some value) (value_at l other) (apart other name x.0 (first_differs x l name i none)))

puts_only : (old new : Pairs) (name value : List ℕ) → Updates old new name value → PutsOnly old new name value
puts_only old new name value updates = record {
  this_name = rw (updates name, (bytes_eq-Decides name name).1 refl) refl;
  other_names = λ other differs. rw (updates other, other_text other name differs) refl;
}

-- ---- what a search says

-- a greater text compares no lower with the name
rises : (a b name : List ℕ) → IsBefore a b → ordering_index (slice_cmp nat_cmp a name) ≤ ordering_index (slice_cmp nat_cmp b name)
rises a b name below = by (slice_cmp nat_cmp a name) refl
  where
    by : (o : Ordering) → slice_cmp nat_cmp a name ≡ o → ordering_index o ≤ ordering_index (slice_cmp nat_cmp b name)
    by Less e = omega arith
    by Equal e =
        let above : slice_cmp nat_cmp b name ≡ Greater = subst (λ (x : List ℕ). slice_cmp nat_cmp b x ≡ Greater) (same_text a name e) (after_from_before a b below) in
        rw above (omega arith)
    by Greater e =
        let above : slice_cmp nat_cmp b name ≡ Greater = after_from_before name b (before_trans name a b (before_from_after a name e) below) in
        rw above (omega arith)

module _ (l : Pairs) (sorted : AreSorted l) (name : List ℕ) where
  -- the comparisons with the name rise along the list, as a binary search asks
  comparisons_rise : IsNonDecreasingBy (λ pair. ordering_index (slice_cmp nat_cmp pair.0 name)) l
  comparisons_rise = IsNonDecreasingBy-from_default (λ pair. ordering_index (slice_cmp nat_cmp pair.0 name)) l ([], []) (λ i j le in_range. elim (cases_lt i j) [
    | inl less ↦ rises _ _ name (sorted i j less in_range)
    | inr more ↦ let same : i ≡ j = omega arith in rw same (omega arith)
  ])

  pub searched : (r : Result ℕ ℕ) → IsSearchInRange r (length l) → IsBinarySearchResult (λ pair. slice_cmp nat_cmp pair.0 name) l r → record { found : IfOk r (IsAt l name); absent : IfErr r (IsGapFor l name) }
  searched (Ok at) in_range equal = record { found = record { in_range = in_range; has_name = same_text (name_at l at) name (equal ([], [])) }; absent = tt }
  searched (Err at) in_range parted = record {
    found = tt;
    absent = record {
      in_range = in_range;
      smaller_before = λ j lt. (parted comparisons_rise).0 j ([], []) (omega arith) lt;
      greater_after = λ j le lt. before_from_after (name_at l j) name ((parted comparisons_rise).1 j ([], []) le lt);
    };
  }

module _ (l : Pairs) (sorted : AreSorted l) (name : List ℕ) (at : ℕ) (is_at : IsAt l name at) where
  no_name_before_at : NoNameBefore l name at
  no_name_before_at j lt same = before_self _ _ (sorted j at lt is_at.in_range) (same ∙ sym is_at.has_name)

  pub value_found : value_at l name ≡ Some (get_or l at ([], [])).1
  value_found = value_present l name at is_at.in_range is_at.has_name no_name_before_at

  pub puts_only_set : (value : List ℕ) → PutsOnly l (set l at (name, value)) name value
  puts_only_set value = puts_only _ _ name value (updates_set l name value at is_at.in_range is_at.has_name no_name_before_at)

module _ (l : Pairs) (name : List ℕ) (at : ℕ) (gap : IsGapFor l name at) where
  no_name_at_all : NoNameBefore l name (length l)
  no_name_at_all j lt same = elim (cases_lt j at) [
    | inl below ↦ before_self _ _ (gap.smaller_before j below) same
    | inr above ↦ before_self _ _ (gap.greater_after j above lt) (sym same)
  ]

  pub value_in_gap : value_at l name ≡ None
  value_in_gap = value_absent l name no_name_at_all

  pub puts_only_insert : (value : List ℕ) → PutsOnly l (insert l at (name, value)) name value
  puts_only_insert value = puts_only _ _ name value (updates_insert l name value at (λ j lt same. before_self _ _ (gap.smaller_before j lt) same))
