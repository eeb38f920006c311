-- Keys that rise, by a test of neighbours.
use Rattle.std.proofs.Common.{◌≡◌, ℕ, ◌+◌, ◌<◌, ◌≤◌, Bool, true, false, List, [], ◌∷◌, length, map, get_or, All, IsTrue, refl, sym, ap, ◌∙◌, Less, Equal, Greater, Ordering, arith}
use Rattle.std.specs.Prelude.{◌↔◌}
use Rattle.std.specs.Cmp.{IsTotalOrder}
use Rattle.std.specs.Cmp.Lexicographic.{slice_cmp}
use Rattle.std.specs.List.{AllAdjacentBelow, AllByRecursion, IsAllAdjacentAnswer}
use Rattle.std.specs.List.Sorted.{IsStrictlySortedBy}
use Rattle.std.specs.Ordering.{nat_cmp, is_lt}
use Rattle.std.proofs.lemmas.Bool.{true≢false}
use Rattle.std.proofs.lemmas.Cmp.{nat_list_cmp_total, on_total}
use Rattle.std.proofs.lemmas.List.Elements.{All-weaker}
use Rattle.std.proofs.lemmas.Map.Keys.{sorted_from_all_adjacent, Less-from_sorted}
use Rattle.kube_meta.specs.Rows.{RowData, AreRising, key_of}

-- the order of rows is that of their keys
abbrev pub row_cmp : RowData → RowData → Ordering
row_cmp a b = slice_cmp nat_cmp (key_of a) (key_of b)

row_total : IsTotalOrder row_cmp
row_total = on_total (λ (row : RowData). key_of row) nat_list_cmp_total

less_of : (o : Ordering) → true ≡ is_lt o → o ≡ Less
less_of Less e = refl
less_of Equal e = absurd (cc)
less_of Greater e = absurd (cc)

sorted : (rows : List RowData) → AllAdjacentBelow (λ a b. row_cmp a b ≡ Less) rows (length rows) → IsStrictlySortedBy row_cmp rows
unfolding IsStrictlySortedBy
sorted [] adjacent = tt
sorted (row ∷ rows) adjacent = sorted_from_all_adjacent row_total (row ∷ rows) row (λ k inside. adjacent k row inside)

-- rows are in order where their keys rise
keys_rise : (rows : List RowData) → IsStrictlySortedBy row_cmp rows → AreRising rows
unfolding IsStrictlySortedBy
keys_rise [] rising = tt
keys_rise (row ∷ rows) rising = (above rows rising.0, keys_rise rows rising.1)
  where
    above : (others : List RowData) → AllByRecursion (λ (o : RowData). row_cmp row o ≡ Less) others → AllByRecursion (λ (k : List ℕ). slice_cmp nat_cmp (key_of row) k ≡ Less) (map key_of others)
    above [] all = tt
    above (other ∷ others) all = (all.0, above others all.1)

rows_rise : (rows : List RowData) → AreRising rows → IsStrictlySortedBy row_cmp rows
unfolding IsStrictlySortedBy
rows_rise [] rising = tt
rows_rise (row ∷ rows) rising = (above rows rising.0, rows_rise rows rising.1)
  where
    above : (others : List RowData) → AllByRecursion (λ (k : List ℕ). slice_cmp nat_cmp (key_of row) k ≡ Less) (map key_of others) → AllByRecursion (λ (o : RowData). row_cmp row o ≡ Less) others
    above [] all = tt
    above (other ∷ others) all = (all.0, above others all.1)

some_row : (rows : List RowData) (k : ℕ) → k < length rows → RowData
some_row [] k inside = absurd (omega arith)
some_row (row ∷ rows) k inside = row

-- what a test of neighbours tells
pub rising_tested : (rows : List RowData) (r : Bool) → IsAllAdjacentAnswer (λ a b t. t ≡ is_lt (row_cmp a b)) rows r → IsTrue r ↔ AreRising rows
rising_tested rows true all = (
  λ passes. keys_rise rows (sorted rows (λ k d inside. less_of (row_cmp (get_or rows k d) (get_or rows (k + 1) d)) (all k d inside))),
  λ rising. refl,
)
rising_tested rows false some = (
  λ passes. absurd (true≢false (sym passes)),
  λ rising.
      let d = some_row rows some.0 (omega (arith, some.1)) in
      let less = Less-from_sorted row_cmp rows some.0 (some.0 + 1) d (rows_rise rows rising) (omega arith) some.1 in
      let bad : false ≡ true = some.2 d ∙ ap is_lt less in
      absurd (true≢false (sym bad)),
)
