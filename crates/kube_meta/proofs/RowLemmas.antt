-- Keys in order, rows whose keys rise, and what stands behind a key among them.
use Rattle.std.proofs.Common.{◌≡◌, ℕ, zero, suc, Bool, true, false, List, [], ◌∷◌, map, filter, drop, Some, refl, sym, ap, ◌∙◌, subst, inl, inr, Less, Equal, Greater, Ordering}
use Rattle.std.proofs.lemmas.Bool.{cases_Bool, and_parts, false_from_ne_true, true≢false}
use Rattle.std.proofs.lemmas.Cmp.{nat_list_cmp_total}
use Rattle.std.proofs.lemmas.Map.Keys.{sorted_head, sorted_tail}
use Rattle.std.specs.Cmp.Lexicographic.{slice_cmp}
use Rattle.std.specs.List.{list_all, slice_get, AllByRecursion}
use Rattle.std.specs.List.Sorted.{IsStrictlySortedBy}
use Rattle.std.specs.Ordering.{nat_cmp, is_lt, ordering_reverse}
use Rattle.kube_meta.specs.Rows.{RowData, key_of, AreRising, is_behind}

-- ---- keys in order

pub flipped : (a b : List ℕ) → slice_cmp nat_cmp a b ≡ Greater → slice_cmp nat_cmp b a ≡ Less
flipped a b greater = nat_list_cmp_total.antisymm b a ∙ ap ordering_reverse greater

pub turned : (a b : List ℕ) → slice_cmp nat_cmp a b ≡ Less → slice_cmp nat_cmp b a ≡ Greater
turned a b less = nat_list_cmp_total.antisymm b a ∙ ap ordering_reverse less

pub lt_of : (a b : List ℕ) → is_lt (slice_cmp nat_cmp a b) ≡ true → slice_cmp nat_cmp a b ≡ Less
lt_of a b passes = by (slice_cmp nat_cmp a b) passes
  where
    by : (o : Ordering) → is_lt o ≡ true → o ≡ Less
    by Less e = refl
    by Equal e = absurd (cc)
    by Greater e = absurd (cc)

pub of_lt : (a b : List ℕ) → slice_cmp nat_cmp a b ≡ Less → is_lt (slice_cmp nat_cmp a b) ≡ true
of_lt a b less = ap is_lt less

pub lt_trans : (a b c : List ℕ) → is_lt (slice_cmp nat_cmp a b) ≡ true → is_lt (slice_cmp nat_cmp b c) ≡ true → is_lt (slice_cmp nat_cmp a c) ≡ true
lt_trans a b c first second = of_lt a c (nat_list_cmp_total.trans a b c (lt_of a b first) (lt_of b c second))

pub lt_not_back : (a b : List ℕ) → is_lt (slice_cmp nat_cmp a b) ≡ true → is_lt (slice_cmp nat_cmp b a) ≡ false
lt_not_back a b less = ap is_lt (turned a b (lt_of a b less))

pub lt_not_self : (a : List ℕ) → is_lt (slice_cmp nat_cmp a a) ≡ false
lt_not_self a = false_from_ne_true (is_lt (slice_cmp nat_cmp a a)) (λ less. true≢false (sym less ∙ lt_not_back a a less))

-- ---- rows whose keys rise

-- each row is behind those before it
abbrev pub Rising : List RowData → Type 0
Rising [] = Unit {0}
Rising (x ∷ xs) = (list_all (is_behind (key_of x)) xs ≡ true) × Rising xs

all_behind : (key : List ℕ) (xs : List RowData) → AllByRecursion (λ y. slice_cmp nat_cmp key y ≡ Less) (map key_of xs) → list_all (is_behind key) xs ≡ true
all_behind key [] all = refl
all_behind key (x ∷ xs) all = rw (all.0) (all_behind key xs all.1)

each_behind : (key : List ℕ) (xs : List RowData) → list_all (is_behind key) xs ≡ true → AllByRecursion (λ y. slice_cmp nat_cmp key y ≡ Less) (map key_of xs)
each_behind key [] all = tt
each_behind key (x ∷ xs) all =
    let both = and_parts (is_behind key x) (list_all (is_behind key) xs) all in
    (lt_of key (key_of x) both.0, each_behind key xs both.1)

pub rising : (xs : List RowData) → AreRising xs → Rising xs
rising [] is = tt
rising (x ∷ xs) is = (
  all_behind (key_of x) xs (sorted_head (slice_cmp nat_cmp) (key_of x) (map key_of xs) is),
  rising xs (sorted_tail (slice_cmp nat_cmp) (key_of x) (map key_of xs) is),
)

pub are_rising : (xs : List RowData) → Rising xs → AreRising xs
unfolding IsStrictlySortedBy
are_rising [] is = tt
are_rising (x ∷ xs) is = (each_behind (key_of x) xs is.0, are_rising xs is.1)

still_pass : (p q : RowData → Bool) (xs : List RowData) → list_all p xs ≡ true → list_all p (filter q xs) ≡ true
still_pass p q [] all = refl
still_pass p q (x ∷ xs) all =
    let both = and_parts (p x) (list_all p xs) all in
    elim (cases_Bool (q x)) [
      | inl taken ↦ rw (taken, both.0) (still_pass p q xs both.1)
      | inr passed ↦ rw passed (still_pass p q xs both.1)
    ]

pub rising_kept : (q : RowData → Bool) (xs : List RowData) → Rising xs → Rising (filter q xs)
rising_kept q [] is = tt
rising_kept q (x ∷ xs) is = elim (cases_Bool (q x)) [
  | inl taken ↦ rw taken (still_pass (is_behind (key_of x)) q xs is.0, rising_kept q xs is.1)
  | inr passed ↦ rw passed (rising_kept q xs is.1)
]

-- ---- what stands behind a row

all_kept : (p : RowData → Bool) (xs : List RowData) → list_all p xs ≡ true → filter p xs ≡ xs
all_kept p [] all = refl
all_kept p (x ∷ xs) all =
    let both = and_parts (p x) (list_all p xs) all in
    rw (both.0) (ap (λ (l : List RowData). x ∷ l) (all_kept p xs both.1))

one_of : (p : RowData → Bool) (xs : List RowData) (n : ℕ) (row : RowData) → list_all p xs ≡ true → slice_get xs n ≡ Some row → p row ≡ true
one_of p [] n row all at = absurd (cc)
one_of p (x ∷ xs) zero row all at =
    let here : x ≡ row = cc in
    subst (λ (r : RowData). p r ≡ true) here (and_parts (p x) (list_all p xs) all).0
one_of p (x ∷ xs) (suc n) row all at = one_of p xs n row (and_parts (p x) (list_all p xs) all).1 at

-- behind the key of the row at a place are the rows after that place
pub behind_row : (xs : List RowData) (n : ℕ) (row : RowData) → Rising xs → slice_get xs n ≡ Some row → filter (is_behind (key_of row)) xs ≡ drop (suc n) xs
behind_row [] n row is at = absurd (cc)
behind_row (x ∷ xs) zero row is at =
    let here : x ≡ row = cc in
    let P : RowData → Type 0 = λ r. filter (is_behind (key_of r)) (x ∷ xs) ≡ xs in
    subst P here (rw (lt_not_self (key_of x)) (all_kept (is_behind (key_of x)) xs is.0))
behind_row (x ∷ xs) (suc n) row is at =
    let later : is_behind (key_of x) row ≡ true = one_of (is_behind (key_of x)) xs n row is.0 at in
    rw (lt_not_back (key_of x) (key_of row) later) (behind_row xs n row is.1 at)
