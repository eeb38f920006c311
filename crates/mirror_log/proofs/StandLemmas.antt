-- Rows that rise, where they stand, and what a search among them finds.
use Rattle.std.proofs.Common.{◌≡◌, ℕ, zero, suc, ◌+◌, ◌<◌, false, List, [], ◌∷◌, map, length, get_or, Some, None, Err, bytes_eq, refl, sym, ap, ◌∙◌, subst, inl, inr, Less, Equal, Greater, arith}
use Rattle.std.specs.Cmp.Lexicographic.{slice_cmp}
use Rattle.std.specs.FinMap.{nat_cmp-IsAntisymmetric, slice_cmp-IsAntisymmetric}
use Rattle.std.specs.List.{AllByRecursion}
use Rattle.std.specs.List.Sorted.{IsStrictlySortedBy, IsSortedBy, IsBinarySearchResult}
use Rattle.std.specs.Ordering.{nat_cmp, is_lt}
use Rattle.std.proofs.lemmas.Bool.{cases_lt, false_from_ne_true}
use Rattle.std.proofs.lemmas.Cmp.{nat_list_cmp_total}
use Rattle.std.proofs.lemmas.List.Elements.{All-from_recursion}
use Rattle.std.proofs.lemmas.List.Sorted.{searchable_from_sorted}
use Rattle.std.proofs.lemmas.Slice.Eq.{bytes_eq-Decides}
use Rattle.kube_meta.specs.Rows.{RowData, key_of, row_with, AreRising}
use Rattle.kube_meta.proofs.RowLemmas.{flipped, of_lt, lt_not_back}
use Rattle.select_all.proofs.ListingLaws.{before_self}

-- ---- each row stands at its key

apart : (x y : RowData) → slice_cmp nat_cmp (key_of x) (key_of y) ≡ Less → bytes_eq (key_of y) (key_of x) ≡ false
apart x y less = false_from_ne_true (bytes_eq (key_of y) (key_of x)) (λ same. before_self (key_of x) (key_of y) less (sym ((bytes_eq-Decides (key_of y) (key_of x)).0 same)))

behind : (x : RowData) (rows others : List RowData) → AllByRecursion (λ k. slice_cmp nat_cmp (key_of x) k ≡ Less) (map key_of others)
    → AllByRecursion (λ row. row_with rows (key_of row) ≡ Some row) others → AllByRecursion (λ row. row_with (x ∷ rows) (key_of row) ≡ Some row) others
behind x rows [] above at = tt
behind x rows (y ∷ others) above at = (rw (apart x y above.0) (at.0), behind x rows others above.1 at.1)

pub stand : (rows : List RowData) → AreRising rows → AllByRecursion (λ row. row_with rows (key_of row) ≡ Some row) rows
unfolding IsStrictlySortedBy
stand [] rising = tt
stand (x ∷ rows) rising = (
  rw ((bytes_eq-Decides (key_of x) (key_of x)).1 refl) refl,
  behind x rows rows rising.0 (stand rows rising.1),
)

-- ---- no row has the key

pub absent : (rows : List RowData) (key : List ℕ) → AllByRecursion (λ row. bytes_eq key (key_of row) ≡ false) rows → row_with rows key ≡ None
absent [] key none = refl
absent (x ∷ rows) key none = rw (none.0) (absent rows key none.1)

absent_at : (rows : List RowData) (key : List ℕ) → ((k : ℕ) (d : RowData) → k < length rows → bytes_eq key (key_of (get_or rows k d)) ≡ false) → row_with rows key ≡ None
absent_at rows key none = absent rows key (by rows none)
  where
    by : (xs : List RowData) → ((k : ℕ) (d : RowData) → k < length xs → bytes_eq key (key_of (get_or xs k d)) ≡ false) → AllByRecursion (λ row. bytes_eq key (key_of row) ≡ false) xs
    by [] each = tt
    by (x ∷ xs) each = (each 0 x (omega arith), by xs (λ k d inside. each (suc k) d (omega (arith, inside))))

-- ---- a search

same_text : (a b : List ℕ) → slice_cmp nat_cmp a b ≡ Equal → a ≡ b
same_text a b tie = slice_cmp-IsAntisymmetric nat_cmp-IsAntisymmetric a b tie

keys_at : (xs : List RowData) (key : List ℕ) (k : ℕ) (d : RowData) → AllByRecursion (λ y. slice_cmp nat_cmp key y ≡ Less) (map key_of xs) → k < length xs → slice_cmp nat_cmp key (key_of (get_or xs k d)) ≡ Less
keys_at [] key k d above inside = absurd (omega (arith, inside))
keys_at (x ∷ xs) key zero d above inside = above.0
keys_at (x ∷ xs) key (suc k) d above inside = keys_at xs key k d above.1 (omega (arith, inside))

next_above : (xs : List RowData) (k : ℕ) (d : RowData) → AreRising xs → k + 1 < length xs → slice_cmp nat_cmp (key_of (get_or xs k d)) (key_of (get_or xs (k + 1) d)) ≡ Less
unfolding IsStrictlySortedBy
next_above [] k d rising inside = absurd (omega (arith, inside))
next_above (x ∷ xs) zero d rising inside = keys_at xs (key_of x) 0 d rising.0 (omega (arith, inside))
next_above (x ∷ xs) (suc k) d rising inside =
    let one : suc (k + 1) ≡ suc k + 1 = omega arith in
    subst (λ n. slice_cmp nat_cmp (key_of (get_or xs k d)) (key_of (get_or (x ∷ xs) n d)) ≡ Less) one (next_above xs k d rising.1 (omega (arith, inside)))

sorted : (rows : List RowData) → AreRising rows → IsSortedBy (λ a b. is_lt (slice_cmp nat_cmp (key_of a) (key_of b))) rows
sorted rows rising k d low inside = lt_not_back (key_of (get_or rows k d)) (key_of (get_or rows (k + 1) d)) (of_lt (key_of (get_or rows k d)) (key_of (get_or rows (k + 1) d)) (next_above rows k d rising inside))

below : (a key : List ℕ) → slice_cmp nat_cmp a key ≡ Less → bytes_eq key a ≡ false
below a key less = false_from_ne_true (bytes_eq key a) (λ same. before_self a key less (sym ((bytes_eq-Decides key a).0 same)))

above : (a key : List ℕ) → slice_cmp nat_cmp a key ≡ Greater → bytes_eq key a ≡ false
above a key greater = false_from_ne_true (bytes_eq key a) (λ same. before_self key a (flipped a key greater) ((bytes_eq-Decides key a).0 same))

-- what is found is the row with the key
pub found : (rows : List RowData) (key : List ℕ) (at : ℕ) (row : RowData) → AreRising rows → at < length rows → row ≡ get_or rows at row → ((d : RowData) → slice_cmp nat_cmp (key_of (get_or rows at d)) key ≡ Equal) → Some row ≡ row_with rows key
found rows key at row rising inside is equal =
    let here : key_of row ≡ key = ap key_of is ∙ same_text (key_of (get_or rows at row)) key (equal row) in
    let stands : row_with rows (key_of (get_or rows at row)) ≡ Some (get_or rows at row) = All-from_recursion (λ r. row_with rows (key_of r) ≡ Some r) rows (stand rows rising) at row inside in
    sym (ap (row_with rows) (sym here ∙ ap key_of is) ∙ stands ∙ ap Some (sym is))

-- and else there is none
pub missing : (rows : List RowData) (key : List ℕ) (at : ℕ) → AreRising rows → IsBinarySearchResult (λ row. slice_cmp nat_cmp (key_of row) key) rows (Err at) → None ≡ row_with rows key
missing rows key at rising parted =
    let parts = parted (searchable_from_sorted nat_list_cmp_total key_of rows key (sorted rows rising)) in
    sym (absent_at rows key (λ k d inside. elim (cases_lt k at) [
      | inl before ↦ below (key_of (get_or rows k d)) key (parts.0 k d (omega arith) before)
      | inr after ↦ above (key_of (get_or rows k d)) key (parts.1 k d after inside)
    ]))
