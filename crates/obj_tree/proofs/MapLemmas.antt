-- What stands below a key and above it, and the first row with a key.
use Rattle.std.proofs.Common.{◌≡◌, ℕ, Bool, true, false, List, [], ◌∷◌, ◌++◌, map, Option, Some, None, refl, sym, ap, ◌∙◌, inl, inr, Less, Equal, Greater, Ordering, bytes_eq}
use Rattle.std.specs.Prelude.{filter, find, if◌then◌else◌}
use Rattle.std.specs.List.{list_all, AllByRecursion}
use Rattle.std.specs.List.Sorted.{IsStrictlySortedBy}
use Rattle.std.specs.Cmp.Lexicographic.{slice_cmp}
use Rattle.std.specs.Ordering.{nat_cmp, is_lt, ordering_reverse}
use Rattle.std.specs.FinMap.{nat_cmp-IsAntisymmetric, slice_cmp-IsAntisymmetric}
use Rattle.std.proofs.lemmas.Bool.{cases_Bool, and_parts, false_from_ne_true, true≢false}
use Rattle.std.proofs.lemmas.Cmp.{nat_list_cmp_total}
use Rattle.std.proofs.lemmas.Slice.Eq.{bytes_eq-Decides}
use Rattle.std.proofs.lemmas.Map.Keys.{sorted_head, sorted_tail}
use Rattle.std.proofs.lemmas.List.{append-nil}
use Rattle.std.proofs.lemmas.List.Elements.{filter-append}
use Rattle.std.proofs.lemmas.List.Folds.{list_all-append}
use Rattle.kube_meta.specs.Rows.{RowData, key_of, AreRising, row_with, is_behind}
use Rattle.obj_tree.specs.Maps.{is_below, below, above, with_row, without}

-- ---- keys in order

pub flipped : (a b : List ℕ) → slice_cmp nat_cmp a b ≡ Greater → slice_cmp nat_cmp b a ≡ Less
flipped a b greater = nat_list_cmp_total.antisymm b a ∙ ap ordering_reverse greater

pub turned : (a b : List ℕ) → slice_cmp nat_cmp a b ≡ Less → slice_cmp nat_cmp b a ≡ Greater
turned a b less = nat_list_cmp_total.antisymm b a ∙ ap ordering_reverse less

pub lt_of : (a b : List ℕ) → is_lt (slice_cmp nat_cmp a b) ≡ true → slice_cmp nat_cmp a b ≡ Less
lt_of a b passes = by (slice_cmp nat_cmp a b) passes
  where
    by : (o : Ordering) → is_lt o ≡ true → o ≡ Less
    by Less e = refl
    by Equal e = absurd (cc)
    by Greater e = absurd (cc)

pub of_lt : (a b : List ℕ) → slice_cmp nat_cmp a b ≡ Less → is_lt (slice_cmp nat_cmp a b) ≡ true
of_lt a b less = ap is_lt less

pub same_text : (a b : List ℕ) → slice_cmp nat_cmp a b ≡ Equal → a ≡ b
same_text a b tie = slice_cmp-IsAntisymmetric nat_cmp-IsAntisymmetric a b tie

pub lt_trans : (a b c : List ℕ) → is_lt (slice_cmp nat_cmp a b) ≡ true → is_lt (slice_cmp nat_cmp b c) ≡ true → is_lt (slice_cmp nat_cmp a c) ≡ true
lt_trans a b c first second = of_lt a c (nat_list_cmp_total.trans a b c (lt_of a b first) (lt_of b c second))

pub lt_not_back : (a b : List ℕ) → is_lt (slice_cmp nat_cmp a b) ≡ true → is_lt (slice_cmp nat_cmp b a) ≡ false
lt_not_back a b less = ap is_lt (turned a b (lt_of a b less))

lt_not_self : (a : List ℕ) → is_lt (slice_cmp nat_cmp a a) ≡ false
lt_not_self a = false_from_ne_true (is_lt (slice_cmp nat_cmp a a)) (λ less. true≢false (sym less ∙ lt_not_back a a less))

-- ---- what a test keeps

module _ {X : Type 0} where
  pub all_weaker : (p q : X → Bool) → ((x : X) → p x ≡ true → q x ≡ true) → (xs : List X) → list_all p xs ≡ true → list_all q xs ≡ true
  all_weaker p q weaker [] all = refl
  all_weaker p q weaker (x ∷ xs) all =
      let both = and_parts (p x) (list_all p xs) all in
      rw (weaker x both.0) (all_weaker p q weaker xs both.1)

  pub all_append : (p : X → Bool) (xs ys : List X) → list_all p xs ≡ true → list_all p ys ≡ true → list_all p (xs ++ ys) ≡ true
  all_append p xs ys these those = rw (list_all-append p xs ys, these) those

  pub all_parts : (p : X → Bool) (xs ys : List X) → list_all p (xs ++ ys) ≡ true → (list_all p xs ≡ true) × (list_all p ys ≡ true)
  all_parts p xs ys all = and_parts (list_all p xs) (list_all p ys) (sym (list_all-append p xs ys) ∙ all)

  filter_all : (p : X → Bool) (xs : List X) → list_all p xs ≡ true → filter p xs ≡ xs
  filter_all p [] all = refl
  filter_all p (x ∷ xs) all =
      let both = and_parts (p x) (list_all p xs) all in
      rw both.0 (ap (λ rest. x ∷ rest) (filter_all p xs both.1))

  filter_none : (p q : X → Bool) → ((x : X) → q x ≡ true → p x ≡ false) → (xs : List X) → list_all q xs ≡ true → filter p xs ≡ []
  filter_none p q fails [] all = refl
  filter_none p q fails (x ∷ xs) all =
      let both = and_parts (q x) (list_all q xs) all in
      rw (fails x both.0) (filter_none p q fails xs both.1)

  kept_pass : (p : X → Bool) (xs : List X) → list_all p (filter p xs) ≡ true
  kept_pass p [] = refl
  kept_pass p (x ∷ xs) = elim (cases_Bool (p x)) [
    | inl pass ↦ rw (pass, pass) (kept_pass p xs)
    | inr fail ↦ rw fail (kept_pass p xs)
  ]

  still_pass : (p q : X → Bool) (xs : List X) → list_all p xs ≡ true → list_all p (filter q xs) ≡ true
  still_pass p q [] all = refl
  still_pass p q (x ∷ xs) all =
      let both = and_parts (p x) (list_all p xs) all in
      elim (cases_Bool (q x)) [
        | inl pass ↦ rw (pass, both.0) (still_pass p q xs both.1)
        | inr fail ↦ rw fail (still_pass p q xs both.1)
      ]

  -- the first of two lists that finds one
  abbrev pub first_some : Option X → Option X → Option X
  first_some None other = other
  first_some (Some x) other = Some x

  find-append : (p : X → Bool) (xs ys : List X) → find p (xs ++ ys) ≡ first_some (find p xs) (find p ys)
  find-append p [] ys = refl
  find-append p (x ∷ xs) ys = elim (cases_Bool (p x)) [
    | inl pass ↦ rw pass refl
    | inr fail ↦ rw fail (find-append p xs ys)
  ]

  -- what no element passes isn't found
  find_none : (p q : X → Bool) → ((x : X) → q x ≡ true → p x ≡ false) → (xs : List X) → list_all q xs ≡ true → find p xs ≡ None
  find_none p q fails [] all = refl
  find_none p q fails (x ∷ xs) all =
      let both = and_parts (q x) (list_all q xs) all in
      rw (fails x both.0) (find_none p q fails xs both.1)

  -- a test that keeps all that is looked for changes nothing
  find_kept : (p q : X → Bool) → ((x : X) → p x ≡ true → q x ≡ true) → (xs : List X) → find p (filter q xs) ≡ find p xs
  find_kept p q keeps [] = refl
  find_kept p q keeps (x ∷ xs) = elim (cases_Bool (q x)) [
    | inl pass ↦ elim (cases_Bool (p x)) [
      | inl here ↦ rw (pass, here) refl
      | inr other ↦ rw (pass, other) (find_kept p q keeps xs)
    ]
    | inr fail ↦
        let other : p x ≡ false = false_from_ne_true (p x) (λ here. true≢false (sym (keeps x here) ∙ fail)) in
        rw (fail, other) (find_kept p q keeps xs)
  ]

  -- and one that keeps none of it leaves nothing
  find_dropped : (p q : X → Bool) → ((x : X) → q x ≡ true → p x ≡ false) → (xs : List X) → find p (filter q xs) ≡ None
  find_dropped p q drops xs = find_none p q drops (filter q xs) (kept_pass q xs)

-- ---- rows below a key and above it

below_not_above : (key : List ℕ) (row : RowData) → is_behind key row ≡ true → is_below key row ≡ false
below_not_above key row passes = lt_not_back key (key_of row) passes

above_not_below : (key : List ℕ) (row : RowData) → is_below key row ≡ true → is_behind key row ≡ false
above_not_below key row passes = lt_not_back (key_of row) key passes

-- a row with the key
at_key_not_below : (key : List ℕ) (row : RowData) → key_of row ≡ key → is_below key row ≡ false
at_key_not_below key row same = ap (λ (k : List ℕ). is_lt (slice_cmp nat_cmp k key)) same ∙ lt_not_self key

at_key_not_above : (key : List ℕ) (row : RowData) → key_of row ≡ key → is_behind key row ≡ false
at_key_not_above key row same = ap (λ (k : List ℕ). is_lt (slice_cmp nat_cmp key k)) same ∙ lt_not_self key

differs : (a b : List ℕ) → is_lt (slice_cmp nat_cmp a b) ≡ true → bytes_eq a b ≡ false
differs a b less = false_from_ne_true (bytes_eq a b) (λ passes.
    let same : a ≡ b = (bytes_eq-Decides a b).0 passes in
    true≢false (sym less ∙ ap (λ (x : List ℕ). is_lt (slice_cmp nat_cmp x b)) same ∙ lt_not_self b))

differs_back : (a b : List ℕ) → is_lt (slice_cmp nat_cmp b a) ≡ true → bytes_eq a b ≡ false
differs_back a b less = false_from_ne_true (bytes_eq a b) (λ passes.
    let same : a ≡ b = (bytes_eq-Decides a b).0 passes in
    true≢false (sym less ∙ ap (λ (x : List ℕ). is_lt (slice_cmp nat_cmp b x)) same ∙ lt_not_self b))

below_differs : (key : List ℕ) (row : RowData) → is_below key row ≡ true → bytes_eq key (key_of row) ≡ false
below_differs key row passes = differs_back key (key_of row) passes

above_differs : (key : List ℕ) (row : RowData) → is_behind key row ≡ true → bytes_eq key (key_of row) ≡ false
above_differs key row passes = differs key (key_of row) passes

-- rows cut where a key would go
pub record Cut (rows : List RowData) (key : List ℕ) (front back : List RowData) : Type 0 where
  pub below_is : below key rows ≡ front
  pub above_is : above key rows ≡ back

pub cut_gap : (front back : List RowData) (key : List ℕ) → list_all (is_below key) front ≡ true → list_all (is_behind key) back ≡ true → Cut (front ++ back) key front back
cut_gap front back key low high = record {
  below_is =
      filter-append (is_below key) front back
      ∙ ap (λ (r : List RowData). r ++ below key back) (filter_all (is_below key) front low)
      ∙ ap (λ (r : List RowData). front ++ r) (filter_none (is_below key) (is_behind key) (below_not_above key) back high)
      ∙ append-nil front;
  above_is =
      filter-append (is_behind key) front back
      ∙ ap (λ (r : List RowData). r ++ above key back) (filter_none (is_behind key) (is_below key) (above_not_below key) front low)
      ∙ filter_all (is_behind key) back high;
}

pub gap_row : (front back : List RowData) (key : List ℕ) → list_all (is_below key) front ≡ true → list_all (is_behind key) back ≡ true → row_with (front ++ back) key ≡ None
gap_row front back key low high =
    let test : RowData → Bool = λ row. bytes_eq key (key_of row) in
    find-append test front back
    ∙ ap (λ (r : Option RowData). first_some r (find test back)) (find_none test (is_below key) (below_differs key) front low)
    ∙ find_none test (is_behind key) (above_differs key) back high

pub cut_row : (front back : List RowData) (row : RowData) (key : List ℕ) → key_of row ≡ key → list_all (is_below key) front ≡ true → list_all (is_behind key) back ≡ true → Cut (front ++ row ∷ back) key front back
cut_row front back row key same low high = record {
  below_is =
      filter-append (is_below key) front (row ∷ back)
      ∙ ap (λ (r : List RowData). r ++ below key (row ∷ back)) (filter_all (is_below key) front low)
      ∙ ap (λ (r : List RowData). front ++ r) (rw (at_key_not_below key row same) (filter_none (is_below key) (is_behind key) (below_not_above key) back high))
      ∙ append-nil front;
  above_is =
      filter-append (is_behind key) front (row ∷ back)
      ∙ ap (λ (r : List RowData). r ++ above key (row ∷ back)) (filter_none (is_behind key) (is_below key) (above_not_below key) front low)
      ∙ rw (at_key_not_above key row same) (filter_all (is_behind key) back high);
}

pub row_row : (front back : List RowData) (row : RowData) (key : List ℕ) → key_of row ≡ key → list_all (is_below key) front ≡ true → row_with (front ++ row ∷ back) key ≡ Some row
row_row front back row key same low =
    let test : RowData → Bool = λ x. bytes_eq key (key_of x) in
    let here : bytes_eq key (key_of row) ≡ true = (bytes_eq-Decides key (key_of row)).1 (sym same) in
    find-append test front (row ∷ back)
    ∙ ap (λ (r : Option RowData). first_some r (find test (row ∷ back))) (find_none test (is_below key) (below_differs key) front low)
    ∙ rw here refl

-- what stands around some rows
none_after : {X : Type 0} (o : Option X) → first_some o None ≡ o
none_after None = refl
none_after (Some x) = refl

pub cut_around : (front rows back : List RowData) (key : List ℕ) → list_all (is_below key) front ≡ true → list_all (is_behind key) back ≡ true → Cut (front ++ (rows ++ back)) key (front ++ below key rows) (above key rows ++ back)
cut_around front rows back key low high = record {
  below_is =
      filter-append (is_below key) front (rows ++ back)
      ∙ ap (λ (r : List RowData). r ++ below key (rows ++ back)) (filter_all (is_below key) front low)
      ∙ ap (λ (r : List RowData). front ++ r) (filter-append (is_below key) rows back)
      ∙ ap (λ (r : List RowData). front ++ (below key rows ++ r)) (filter_none (is_below key) (is_behind key) (below_not_above key) back high)
      ∙ ap (λ (r : List RowData). front ++ r) (append-nil (below key rows));
  above_is =
      filter-append (is_behind key) front (rows ++ back)
      ∙ ap (λ (r : List RowData). r ++ above key (rows ++ back)) (filter_none (is_behind key) (is_below key) (above_not_below key) front low)
      ∙ filter-append (is_behind key) rows back
      ∙ ap (λ (r : List RowData). above key rows ++ r) (filter_all (is_behind key) back high);
}

pub row_around : (front rows back : List RowData) (key : List ℕ) → list_all (is_below key) front ≡ true → list_all (is_behind key) back ≡ true → row_with (front ++ (rows ++ back)) key ≡ row_with rows key
row_around front rows back key low high =
    let test : RowData → Bool = λ row. bytes_eq key (key_of row) in
    find-append test front (rows ++ back)
    ∙ ap (λ (r : Option RowData). first_some r (find test (rows ++ back))) (find_none test (is_below key) (below_differs key) front low)
    ∙ find-append test rows back
    ∙ ap (λ (r : Option RowData). first_some (find test rows) r) (find_none test (is_behind key) (above_differs key) back high)
    ∙ none_after (find test rows)

-- ---- the laws

-- below one key stand all rows of a smaller key and none of another, and so above it
same_key : (key : List ℕ) (row : RowData) → bytes_eq key (key_of row) ≡ true → key_of row ≡ key
same_key key row passes = sym ((bytes_eq-Decides key (key_of row)).0 passes)

kept_below : (gone key : List ℕ) → is_lt (slice_cmp nat_cmp key gone) ≡ true → (row : RowData) → bytes_eq key (key_of row) ≡ true → is_below gone row ≡ true
kept_below gone key less row passes = ap (λ (k : List ℕ). is_lt (slice_cmp nat_cmp k gone)) (same_key key row passes) ∙ less

kept_above : (gone key : List ℕ) → is_lt (slice_cmp nat_cmp gone key) ≡ true → (row : RowData) → bytes_eq key (key_of row) ≡ true → is_behind gone row ≡ true
kept_above gone key less row passes = ap (λ (k : List ℕ). is_lt (slice_cmp nat_cmp gone k)) (same_key key row passes) ∙ less

dropped_below : (gone key : List ℕ) → is_lt (slice_cmp nat_cmp key gone) ≡ false → (row : RowData) → is_below gone row ≡ true → bytes_eq key (key_of row) ≡ false
dropped_below gone key not_less row passes = false_from_ne_true (bytes_eq key (key_of row)) (λ here.
    true≢false (sym passes ∙ ap (λ (k : List ℕ). is_lt (slice_cmp nat_cmp k gone)) (same_key key row here) ∙ not_less))

dropped_above : (gone key : List ℕ) → is_lt (slice_cmp nat_cmp gone key) ≡ false → (row : RowData) → is_behind gone row ≡ true → bytes_eq key (key_of row) ≡ false
dropped_above gone key not_less row passes = false_from_ne_true (bytes_eq key (key_of row)) (λ here.
    true≢false (sym passes ∙ ap (λ (k : List ℕ). is_lt (slice_cmp nat_cmp gone k)) (same_key key row here) ∙ not_less))

-- how two keys stand
pub data Stand (a b : List ℕ) : Type 0 where
  lower : is_lt (slice_cmp nat_cmp a b) ≡ true → Stand a b
  same : a ≡ b → Stand a b
  higher : is_lt (slice_cmp nat_cmp b a) ≡ true → Stand a b

pub stand : (a b : List ℕ) → Stand a b
stand a b = by (slice_cmp nat_cmp a b) refl
  where
    by : (o : Ordering) → slice_cmp nat_cmp a b ≡ o → Stand a b
    by Less e = lower (of_lt a b e)
    by Equal e = same (same_text a b e)
    by Greater e = higher (of_lt b a (flipped a b e))

-- what is found in what stands below and above another key, whatever row is put between
found : (rows middle : List RowData) (gone key : List ℕ) → row_with (below gone rows ++ (middle ++ above gone rows)) key ≡ first_some (row_with (below gone rows) key) (first_some (row_with middle key) (row_with (above gone rows) key))
found rows middle gone key =
    let test : RowData → Bool = λ x. bytes_eq key (key_of x) in
    find-append test (below gone rows) (middle ++ above gone rows)
    ∙ ap (λ (r : Option RowData). first_some (row_with (below gone rows) key) r) (find-append test middle (above gone rows))

-- another key's row
pub found_other : (rows middle : List RowData) (gone key : List ℕ) → bytes_eq key gone ≡ false → row_with middle key ≡ None → row_with (below gone rows ++ (middle ++ above gone rows)) key ≡ row_with rows key
found_other rows middle gone key other none = by (stand key gone)
  where
    by : Stand key gone → row_with (below gone rows ++ (middle ++ above gone rows)) key ≡ row_with rows key
    by (lower less) =
        let test : RowData → Bool = λ x. bytes_eq key (key_of x) in
        let low : row_with (below gone rows) key ≡ row_with rows key = find_kept test (is_below gone) (kept_below gone key less) rows in
        let high : row_with (above gone rows) key ≡ None = find_dropped test (is_behind gone) (dropped_above gone key (lt_not_back key gone less)) rows in
        rw (found rows middle gone key, low, none, high) (none_after (row_with rows key))
    by (same e) = absurd (true≢false (sym ((bytes_eq-Decides key gone).1 e) ∙ other))
    by (higher less) =
        let test : RowData → Bool = λ x. bytes_eq key (key_of x) in
        let low : row_with (below gone rows) key ≡ None = find_dropped test (is_below gone) (dropped_below gone key (lt_not_back gone key less)) rows in
        let high : row_with (above gone rows) key ≡ row_with rows key = find_kept test (is_behind gone) (kept_above gone key less) rows in
        rw (found rows middle gone key, low, none, high) refl

-- the key's own
pub found_here : (rows middle : List RowData) (gone : List ℕ) → row_with (below gone rows ++ (middle ++ above gone rows)) gone ≡ row_with middle gone
found_here rows middle gone =
    let test : RowData → Bool = λ x. bytes_eq gone (key_of x) in
    let low : row_with (below gone rows) gone ≡ None = find_dropped test (is_below gone) (dropped_below gone gone (lt_not_self gone)) rows in
    let high : row_with (above gone rows) gone ≡ None = find_dropped test (is_behind gone) (dropped_above gone gone (lt_not_self gone)) rows in
    rw (found rows middle gone gone, low, high) (none_after (row_with middle gone))

pub put_is_update : (rows : List RowData) (row : RowData) (key : List ℕ) → row_with (with_row rows row) key ≡ (if bytes_eq key (key_of row) then Some row else row_with rows key)
put_is_update rows row key = elim (cases_Bool (bytes_eq key (key_of row))) [
  | inl pass ↦
      let e : key ≡ key_of row = (bytes_eq-Decides key (key_of row)).0 pass in
      let one : row_with (row ∷ []) (key_of row) ≡ Some row = rw ((bytes_eq-Decides (key_of row) (key_of row)).1 refl) refl in
      rw pass (ap (λ (k : List ℕ). row_with (with_row rows row) k) e ∙ found_here rows (row ∷ []) (key_of row) ∙ one)
  | inr fail ↦ rw fail (found_other rows (row ∷ []) (key_of row) key fail (rw fail refl))
]

pub removal_is_update : (rows : List RowData) (gone key : List ℕ) → row_with (without rows gone) key ≡ (if bytes_eq key gone then None else row_with rows key)
removal_is_update rows gone key = elim (cases_Bool (bytes_eq key gone)) [
  | inl pass ↦
      let e : key ≡ gone = (bytes_eq-Decides key gone).0 pass in
      rw pass (ap (λ (k : List ℕ). row_with (without rows gone) k) e ∙ found_here rows [] gone)
  | inr fail ↦ rw fail (found_other rows [] gone key fail refl)
]

-- ---- rising

-- each row is above those before it
abbrev pub Rising : List RowData → Type 0
Rising [] = Unit {0}
Rising (x ∷ xs) = (list_all (is_behind (key_of x)) xs ≡ true) × Rising xs

all_above : (key : List ℕ) (xs : List RowData) → AllByRecursion (λ y. slice_cmp nat_cmp key y ≡ Less) (map key_of xs) → list_all (is_behind key) xs ≡ true
all_above key [] all = refl
all_above key (x ∷ xs) all = rw (all.0) (all_above key xs all.1)

each_above : (key : List ℕ) (xs : List RowData) → list_all (is_behind key) xs ≡ true → AllByRecursion (λ y. slice_cmp nat_cmp key y ≡ Less) (map key_of xs)
each_above key [] all = tt
each_above key (x ∷ xs) all =
    let both = and_parts (is_behind key x) (list_all (is_behind key) xs) all in
    (lt_of key (key_of x) both.0, each_above key xs both.1)

pub rising : (xs : List RowData) → AreRising xs → Rising xs
rising [] is = tt
rising (x ∷ xs) is = (
  all_above (key_of x) xs (sorted_head (slice_cmp nat_cmp) (key_of x) (map key_of xs) is),
  rising xs (sorted_tail (slice_cmp nat_cmp) (key_of x) (map key_of xs) is),
)

pub are_rising : (xs : List RowData) → Rising xs → AreRising xs
unfolding IsStrictlySortedBy
are_rising [] is = tt
are_rising (x ∷ xs) is = (each_above (key_of x) xs is.0, are_rising xs is.1)

-- a list all of which is below a key, and one all of which is above it
abbrev pub above_each : RowData → List RowData → Bool
above_each x ys = list_all (is_behind (key_of x)) ys

above_all_of : (key : List ℕ) (x : RowData) (ys : List RowData) → is_below key x ≡ true → list_all (is_behind key) ys ≡ true → above_each x ys ≡ true
above_all_of key x ys low high = all_weaker (is_behind key) (is_behind (key_of x)) (λ y passes. lt_trans (key_of x) key (key_of y) low passes) ys high

pub rising_append : (xs ys : List RowData) (key : List ℕ) → Rising xs → Rising ys → list_all (is_below key) xs ≡ true → list_all (is_behind key) ys ≡ true → Rising (xs ++ ys)
rising_append [] ys key these those low high = those
rising_append (x ∷ xs) ys key these those low high =
    let both = and_parts (is_below key x) (list_all (is_below key) xs) low in
    (all_append (is_behind (key_of x)) xs ys these.0 (above_all_of key x ys both.0 high), rising_append xs ys key these.1 those both.1 high)

-- a row between
rising_around : (xs ys : List RowData) (row : RowData) → Rising xs → Rising ys → list_all (is_below (key_of row)) xs ≡ true → list_all (is_behind (key_of row)) ys ≡ true → Rising (xs ++ row ∷ ys)
rising_around [] ys row these those low high = (high, those)
rising_around (x ∷ xs) ys row these those low high =
    let both = and_parts (is_below (key_of row) x) (list_all (is_below (key_of row)) xs) low in
    let last : list_all (is_behind (key_of x)) (row ∷ ys) ≡ true = rw (both.0) (above_all_of (key_of row) x ys both.0 high) in
    (all_append (is_behind (key_of x)) xs (row ∷ ys) these.0 last, rising_around xs ys row these.1 those both.1 high)

pub rising_parts : (xs ys : List RowData) → Rising (xs ++ ys) → Rising xs × Rising ys
rising_parts [] ys is = (tt, is)
rising_parts (x ∷ xs) ys is =
    let rest = rising_parts xs ys is.1 in
    ((((all_parts (is_behind (key_of x)) xs ys is.0).0), rest.0), rest.1)

-- what stands before a row is below it
pub before_row : (xs ys : List RowData) (row : RowData) → Rising (xs ++ row ∷ ys) → list_all (is_below (key_of row)) xs ≡ true
before_row [] ys row is = refl
before_row (x ∷ xs) ys row is =
    let both = all_parts (is_behind (key_of x)) xs (row ∷ ys) is.0 in
    let here = and_parts (is_behind (key_of x) row) (list_all (is_behind (key_of x)) ys) both.1 in
    rw (here.0) (before_row xs ys row is.1)

rising_filter : (q : RowData → Bool) (xs : List RowData) → Rising xs → Rising (filter q xs)
rising_filter q [] is = tt
rising_filter q (x ∷ xs) is = elim (cases_Bool (q x)) [
  | inl pass ↦ rw pass (still_pass (is_behind (key_of x)) q xs is.0, rising_filter q xs is.1)
  | inr fail ↦ rw fail (rising_filter q xs is.1)
]

-- where no row has a key, nothing is removed
pub none_without : (rows : List RowData) (key : List ℕ) → Rising rows → row_with rows key ≡ None → without rows key ≡ rows
none_without [] key is none = refl
none_without (row ∷ rows) key is none = by (stand (key_of row) key) (none_without rows key is.1)
  where
    by : Stand (key_of row) key → (row_with rows key ≡ None → without rows key ≡ rows) → without (row ∷ rows) key ≡ row ∷ rows
    by (lower less) rest_is =
        let over : is_behind key row ≡ false = above_not_below key row less in
        let other : bytes_eq key (key_of row) ≡ false = below_differs key row less in
        let rest : row_with (row ∷ rows) key ≡ row_with rows key = rw other refl in
        rw (less, over) (ap (λ (r : List RowData). row ∷ r) (rest_is (sym rest ∙ none)))
    by (same e) rest_is =
        let some : row_with (row ∷ rows) key ≡ Some row = row_row [] rows row key e refl in
        let never : Some row ≡ None = sym some ∙ none in
        cc
    by (higher more) rest_is =
        let later : list_all (is_behind key) rows ≡ true = all_weaker (is_behind (key_of row)) (is_behind key) (λ x passes. lt_trans key (key_of row) (key_of x) more passes) rows is.0 in
        let all : list_all (is_behind key) (row ∷ rows) ≡ true = rw more later in
        let cut = cut_gap [] (row ∷ rows) key refl all in
        rw (cut.below_is, cut.above_is) refl

pub put_stays_rising : (rows : List RowData) (row : RowData) → AreRising rows → AreRising (with_row rows row)
put_stays_rising rows row is =
    let before = rising rows is in
    are_rising (with_row rows row) (rising_around (below (key_of row) rows) (above (key_of row) rows) row (rising_filter (is_below (key_of row)) rows before) (rising_filter (is_behind (key_of row)) rows before) (kept_pass (is_below (key_of row)) rows) (kept_pass (is_behind (key_of row)) rows))

pub removal_stays_rising : (rows : List RowData) (gone : List ℕ) → AreRising rows → AreRising (without rows gone)
removal_stays_rising rows gone is =
    let before = rising rows is in
    are_rising (without rows gone) (rising_append (below gone rows) (above gone rows) gone (rising_filter (is_below gone) rows before) (rising_filter (is_behind gone) rows before) (kept_pass (is_below gone) rows) (kept_pass (is_behind gone) rows))
