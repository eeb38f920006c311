-- What searches find.
use Rattle.std.proofs.Common.{◌≡◌, ℕ, zero, suc, ◌<◌, Bool, true, false, List, [], ◌∷◌, ◌++◌, length, take, drop, get_or, refl, sym, ap, ◌∙◌, subst, arith, Less, Greater}
use Rattle.std.specs.Prelude.{not}
use Rattle.std.specs.List.{list_all}
use Rattle.std.specs.Cmp.Lexicographic.{slice_cmp}
use Rattle.std.specs.Ordering.{nat_cmp, is_lt}
use Rattle.std.proofs.Math.Seq.{drop-cons}
use Rattle.std.proofs.lemmas.Bool.{and_parts, true≢false}
use Rattle.std.proofs.lemmas.List.{take-append-drop}
use Rattle.kube_meta.specs.Rows.{RowData, key_of, AreRising, is_behind}
use Rattle.obj_tree.specs.Maps.{is_below}
use Rattle.obj_tree.specs.Pages.{joined, AreParts, page_at, begins_by, IsRowAt}
use Rattle.obj_tree.proofs.MapLemmas.{flipped, of_lt, lt_trans, Stand, lower, same, higher, stand, all_weaker, Rising, rising, rising_parts, before_row}
use Rattle.obj_tree.proofs.PageLemmas.{joined_at, some_at}

-- ---- the row with a key

-- what stands around a row
around : (rows : List RowData) (at : ℕ) (row : RowData) → at < length rows → Rising rows → Rising (take at rows ++ (get_or rows at row ∷ drop (suc at) rows))
around rows at row inside is =
    let same : rows ≡ take at rows ++ (get_or rows at row ∷ drop (suc at) rows) = sym (take-append-drop at rows) ∙ ap (λ (r : List RowData). take at rows ++ r) (drop-cons rows at row inside) in
    subst (λ (r : List RowData). Rising r) same is

before_at : (rows : List RowData) (at : ℕ) (row : RowData) (key : List ℕ) → at < length rows → Rising rows → key_of (get_or rows at row) ≡ key → list_all (is_below key) (take at rows) ≡ true
before_at rows at row key inside is has =
    subst (λ (k : List ℕ). list_all (is_below k) (take at rows) ≡ true) has (before_row (take at rows) (drop (suc at) rows) (get_or rows at row) (around rows at row inside is))

after_at : (rows : List RowData) (at : ℕ) (row : RowData) (key : List ℕ) → at < length rows → Rising rows → key_of (get_or rows at row) ≡ key → list_all (is_behind key) (drop (suc at) rows) ≡ true
after_at rows at row key inside is has =
    let later = rising_parts (take at rows) (get_or rows at row ∷ drop (suc at) rows) (around rows at row inside is) in
    subst (λ (k : List ℕ). list_all (is_behind k) (drop (suc at) rows) ≡ true) has later.1.0

-- some row, where there is one
pub first_row : (rows : List RowData) → 0 < length rows → RowData
first_row [] some = absurd (omega arith)
first_row (row ∷ rows) some = row

pub row_at : (rows : List RowData) (key : List ℕ) (at : ℕ) → at < length rows → AreRising rows → ((row : RowData) → key_of (get_or rows at row) ≡ key) → IsRowAt rows key at
row_at rows key at inside is has =
    let row = first_row rows (omega arith) in
    record {
      inside = inside;
      before = before_at rows at row key inside (rising rows is) (has row);
      has_key = has;
      after = after_at rows at row key inside (rising rows is) (has row);
    }

passes_at : {X : Type 0} (p : X → Bool) (xs : List X) (i : ℕ) (d : X) → list_all p xs ≡ true → i < length xs → p (get_or xs i d) ≡ true
passes_at p [] i d all inside = absurd (omega arith)
passes_at p (x ∷ xs) zero d all inside = (and_parts (p x) (list_all p xs) all).0
passes_at p (x ∷ xs) (suc i) d all inside = passes_at p xs i d (and_parts (p x) (list_all p xs) all).1 (omega arith)

-- where one row is below a key, so are those before it
pub below_upto : (rows : List RowData) (i : ℕ) (d : RowData) (key : List ℕ) → i < length rows → Rising rows → slice_cmp nat_cmp (key_of (get_or rows i d)) key ≡ Less → list_all (is_below key) (take (suc i) rows) ≡ true
below_upto [] i d key inside is less = absurd (omega arith)
below_upto (x ∷ rows) zero d key inside is less = rw (of_lt (key_of x) key less) refl
below_upto (x ∷ rows) (suc i) d key inside is less =
    let before : is_lt (slice_cmp nat_cmp (key_of x) (key_of (get_or rows i d))) ≡ true = passes_at (is_behind (key_of x)) rows i d is.0 (omega arith) in
    rw (lt_trans (key_of x) (key_of (get_or rows i d)) key before (of_lt (key_of (get_or rows i d)) key less)) (below_upto rows i d key (omega arith) is.1 less)

-- where one row is above a key, so are those after it
pub behind_from : (rows : List RowData) (i : ℕ) (d : RowData) (key : List ℕ) → i < length rows → Rising rows → slice_cmp nat_cmp (key_of (get_or rows i d)) key ≡ Greater → list_all (is_behind key) (drop i rows) ≡ true
behind_from [] i d key inside is greater = absurd (omega arith)
behind_from (x ∷ rows) zero d key inside is greater =
    let here : is_behind key x ≡ true = of_lt key (key_of x) (flipped (key_of x) key greater) in
    rw here (all_weaker (is_behind (key_of x)) (is_behind key) (λ y passes. lt_trans key (key_of x) (key_of y) here passes) rows is.0)
behind_from (x ∷ rows) (suc i) d key inside is greater = behind_from rows i d key (omega arith) is.1 greater

-- ---- the page for a key

not_true : (b : Bool) → not b ≡ true → b ≡ false
not_true true e = cc
not_true false e = refl

-- a page that begins above a key stands above it whole, and so do those after it
begins_above : (key : List ℕ) (page : List RowData) (back : List RowData) → begins_by key page ≡ false → Rising (page ++ back) → list_all (is_behind key) (page ++ back) ≡ true
begins_above key [] back above is = absurd (cc)
begins_above key (row ∷ rows) back above is =
    let here : is_behind key row ≡ true = true_of (is_behind key row) above in
    let rest = all_weaker (is_behind (key_of row)) (is_behind key) (λ x passes. lt_trans key (key_of row) (key_of x) here passes) (rows ++ back) is.0 in
    rw here rest
  where
    true_of : (b : Bool) → not b ≡ false → b ≡ true
    true_of true e = refl
    true_of false e = cc

-- what is below a key that isn't above another is below that
lt_le : (a b key : List ℕ) → is_lt (slice_cmp nat_cmp a b) ≡ true → is_lt (slice_cmp nat_cmp key b) ≡ false → is_lt (slice_cmp nat_cmp a key) ≡ true
lt_le a b key less not_above = by (stand b key)
  where
    by : Stand b key → is_lt (slice_cmp nat_cmp a key) ≡ true
    by (lower more) = lt_trans a b key less more
    by (same e) = subst (λ (k : List ℕ). is_lt (slice_cmp nat_cmp a k) ≡ true) e less
    by (higher more) = absurd (true≢false (sym more ∙ not_above))

all_before : (key : List ℕ) (front page back : List RowData) → 0 < length page → Rising (front ++ (page ++ back)) → begins_by key page ≡ true → list_all (is_below key) front ≡ true
all_before key front [] back some is begins = absurd (omega arith)
all_before key front (row ∷ rows) back some is begins =
    all_weaker (is_below (key_of row)) (is_below key) (λ x passes. lt_le (key_of x) (key_of row) key passes (not_true (is_behind key row) begins)) front (before_row front (rows ++ back) row is)

-- what stands before a page that doesn't begin above a key is below it
pub below_page : (pages : List (List RowData)) (key : List ℕ) (at : ℕ) → at < length pages → AreParts pages → begins_by key (page_at pages at) ≡ true → list_all (is_below key) (joined (take at pages)) ≡ true
below_page pages key at inside paged begun =
    let split = subst (λ (r : List RowData). Rising r) (joined_at pages at inside) (rising (joined pages) paged.rising) in
    all_before key (joined (take at pages)) (page_at pages at) (joined (drop (suc at) pages)) (some_at pages at paged.some inside) split begun

-- and a page that begins above it stands above it with all after it
pub behind_page : (pages : List (List RowData)) (key : List ℕ) (at : ℕ) → at < length pages → AreParts pages → begins_by key (page_at pages at) ≡ false → list_all (is_behind key) (joined (drop at pages)) ≡ true
behind_page pages key at inside paged above =
    let split = subst (λ (r : List RowData). Rising r) (joined_at pages at inside) (rising (joined pages) paged.rising) in
    let later = (rising_parts (joined (take at pages)) (page_at pages at ++ joined (drop (suc at) pages)) split).1 in
    let all = begins_above key (page_at pages at) (joined (drop (suc at) pages)) above later in
    subst (λ (p : List (List RowData)). list_all (is_behind key) (joined p) ≡ true) (sym (drop-cons pages at [] inside)) all
