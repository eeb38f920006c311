-- What the prefixes of pages' first rows tell.
use Rattle.std.proofs.Common.{◌≡◌, ℕ, zero, suc, ◌<◌, ◌≤◌, true, false, List, [], ◌∷◌, ◌++◌, length, map, take, get_or, refl, sym, ap, ◌∙◌, subst, arith, Less, Equal, Greater, Ordering}
use Rattle.std.specs.Prelude.{not, ◌==◌}
use Rattle.std.specs.Cmp.Lexicographic.{slice_cmp}
use Rattle.std.specs.Ordering.{nat_cmp, is_lt, is_gt, ordering_reverse}
use Rattle.std.proofs.lemmas.Bool.Decides.{nat_tests}
use Rattle.std.proofs.lemmas.Cmp.{nat_list_cmp_total}
use Rattle.kube_meta.specs.Rows.{RowData, key_of}
use Rattle.encode_once.specs.declared.prefix.KeyPrefix.{KeyPrefix}
use Rattle.encode_once.specs.Prefixes.{first_bytes}
use Rattle.encode_once.proofs.PrefixLemmas.{in_order}
use Rattle.obj_tree.specs.Edges.{begins_below as is_page_below}
use Rattle.obj_tree.specs.Prefixes.{IsPrefix}
use Rattle.obj_tree.specs.Pages.{joined, begins_by, row_put, row_gone, AreSized}
use Rattle.obj_tree.proofs.MapLemmas.{flipped, turned}

-- ---- what a page's prefix tells of a key

less_apart : Less ≡ Equal → ⊥
less_apart e = cc

greater_apart : Greater ≡ Equal → ⊥
greater_apart e = cc

pub begins_below : (prefix : KeyPrefix) (key : List ℕ) (rows : List RowData) → IsPrefix prefix rows → slice_cmp nat_cmp prefix.bytes (first_bytes 48 key) ≡ Less → begins_by key rows ≡ true
begins_below prefix key [] is less = refl
begins_below prefix key (row ∷ rows) is less =
    let lower : slice_cmp nat_cmp (key_of row) key ≡ Less = in_order 48 (key_of row) key Less (ap (λ (p : List ℕ). slice_cmp nat_cmp p (first_bytes 48 key)) (sym is) ∙ less) less_apart in
    ap (λ (o : Ordering). not (is_lt o)) (turned (key_of row) key lower)

pub begins_over : (rows : List RowData) (prefix : KeyPrefix) (key : List ℕ) → IsPrefix prefix rows → slice_cmp nat_cmp prefix.bytes (first_bytes 48 key) ≡ Greater → (length rows == 0) ≡ begins_by key rows
begins_over [] prefix key is greater = refl
begins_over (row ∷ rows) prefix key is greater =
    let higher : slice_cmp nat_cmp (key_of row) key ≡ Greater = in_order 48 (key_of row) key Greater (ap (λ (p : List ℕ). slice_cmp nat_cmp p (first_bytes 48 key)) (sym is) ∙ greater) greater_apart in
    let some : (length (row ∷ rows) == 0) ≡ false = grind (arith, nat_tests) in
    some ∙ sym (ap (λ (o : Ordering). not (is_lt o)) (flipped (key_of row) key higher))

-- what the first page tells of all rows
prefix_first : (prefix : KeyPrefix) (page back : List RowData) → 0 < length page → IsPrefix prefix page → IsPrefix prefix (page ++ back)
prefix_first prefix [] back some is = absurd (omega arith)
prefix_first prefix (row ∷ page) back some is = is

begins_by_first : (key : List ℕ) (page back : List RowData) → 0 < length page → begins_by key page ≡ begins_by key (page ++ back)
begins_by_first key [] back some = absurd (omega arith)
begins_by_first key (row ∷ page) back some = refl

begins_below_first : (text : List ℕ) (page back : List RowData) → 0 < length page → is_page_below text page ≡ is_page_below text (page ++ back)
begins_below_first text [] back some = absurd (omega arith)
begins_below_first text (row ∷ page) back some = refl

gt_is : (a b : List ℕ) → is_gt (slice_cmp nat_cmp a b) ≡ is_lt (slice_cmp nat_cmp b a)
gt_is a b = by (slice_cmp nat_cmp a b) ∙ ap is_lt (sym (nat_list_cmp_total.antisymm b a))
  where
    by : (o : Ordering) → is_gt o ≡ is_lt (ordering_reverse o)
    by Less = refl
    by Equal = refl
    by Greater = refl

-- what its first row tells
pub begins_first : {X : Type 0} (v : X → RowData) (xs : List X) (x : X) (key : List ℕ) → 0 < length xs → x ≡ get_or xs 0 x → not (is_gt (slice_cmp nat_cmp (key_of (v x)) key)) ≡ begins_by key (map v xs)
begins_first v [] x key some same = absurd (omega arith)
begins_first v (y ∷ ys) x key some same =
    ap (λ z. not (is_gt (slice_cmp nat_cmp (key_of (v z)) key))) same ∙ ap not (gt_is (key_of (v y)) key)

module _ {X : Type 0} (v : X → List RowData) where
  pub begins_by_page : (xs : List X) (x : X) (key : List ℕ) → 0 < length xs → x ≡ get_or xs 0 x → AreSized (map v xs) → begins_by key (v x) ≡ begins_by key (joined (map v xs))
  begins_by_page [] x key some same sized = absurd (omega arith)
  begins_by_page (y ∷ ys) x key some same sized = ap (λ z. begins_by key (v z)) same ∙ begins_by_first key (v y) (joined (map v ys)) sized.0

  pub begins_below_page : (xs : List X) (x : X) (text : List ℕ) → 0 < length xs → x ≡ get_or xs 0 x → AreSized (map v xs) → is_page_below text (v x) ≡ is_page_below text (joined (map v xs))
  begins_below_page [] x text some same sized = absurd (omega arith)
  begins_below_page (y ∷ ys) x text some same sized = ap (λ z. is_page_below text (v z)) same ∙ begins_below_first text (v y) (joined (map v ys)) sized.0

  pub prefix_page : (xs : List X) (x : X) (prefix : KeyPrefix) → 0 < length xs → x ≡ get_or xs 0 x → AreSized (map v xs) → IsPrefix prefix (v x) → IsPrefix prefix (joined (map v xs))
  prefix_page [] x prefix some same sized is = absurd (omega arith)
  prefix_page (y ∷ ys) x prefix some same sized is = prefix_first prefix (v y) (joined (map v ys)) sized.0 (subst (λ z. IsPrefix prefix (v z)) same is)

-- ---- a change behind the first row leaves the prefix

pub prefix_put : (prefix : KeyPrefix) (rows : List RowData) (from to : ℕ) (row : RowData) → 0 < from → from ≤ length rows → IsPrefix prefix rows → IsPrefix prefix (row_put rows from to row)
prefix_put prefix [] from to row some within is = absurd (omega arith)
prefix_put prefix (x ∷ rows) zero to row some within is = absurd (omega arith)
prefix_put prefix (x ∷ rows) (suc from) to row some within is = is

pub prefix_gone : (prefix : KeyPrefix) (rows : List RowData) (at : ℕ) → 0 < at → at < length rows → IsPrefix prefix rows → IsPrefix prefix (row_gone rows at)
prefix_gone prefix [] at some within is = absurd (omega arith)
prefix_gone prefix (x ∷ rows) zero some within is = absurd (omega arith)
prefix_gone prefix (x ∷ rows) (suc at) some within is = is

pub prefix_front : (prefix : KeyPrefix) (rows : List RowData) (n : ℕ) → 0 < n → IsPrefix prefix rows → IsPrefix prefix (take n rows)
prefix_front prefix rows zero some is = absurd (omega arith)
prefix_front prefix [] (suc n) some is = tt
prefix_front prefix (row ∷ rows) (suc n) some is = is
