-- How many rows pages hold, and the rows from one place up to another.
use Rattle.std.proofs.Common.{◌≡◌, ℕ, zero, suc, ◌+◌, ◌-◌, ◌<◌, ◌≤◌, List, [], ◌∷◌, ◌++◌, length, take, drop, refl, sym, ap, ◌∙◌, subst, map, arith, append_assoc, length-append}
use Rattle.kube_meta.specs.Rows.{RowData}
use Rattle.obj_tree.specs.Edges.{rows_before, IsSpot}
use Rattle.obj_tree.specs.Pages.{joined, page_at, HoldEach, IsWithin}
use Rattle.obj_tree.specs.declared.edges.Spot.{Spot}
use Rattle.obj_tree.proofs.EditLemmas.{joined_take}

-- ---- how many rows pages hold

pub count_more : (pages : List (List RowData)) (n : ℕ) → n < length pages → length (joined (take (suc n) pages)) ≡ length (joined (take n pages)) + length (page_at pages n)
count_more pages n inside = ap length (joined_take pages n inside) ∙ length-append (joined (take n pages)) (page_at pages n)

pub count_part : (pages : List (List RowData)) (n : ℕ) → length (joined (take n pages)) ≤ length (joined pages)
count_part pages zero = omega arith
count_part [] (suc n) = omega arith
count_part (page ∷ pages) (suc n) = omega (arith, count_part pages n, length-append page (joined (take n pages)), length-append page (joined pages))

pub first_part : (pages : List (List RowData)) → length (page_at pages 0) ≤ length (joined pages)
first_part [] = omega arith
first_part (page ∷ pages) = omega (arith, length-append page (joined pages))

pub take_one : {X : Type 0} (n : ℕ) (left : ℕ) (x : X) (xs ys : List X) → left ≡ n + 1 → ys ≡ x ∷ xs → take left ys ≡ x ∷ take n xs
take_one n zero x xs ys e same = absurd (omega arith)
take_one n (suc left) x xs ys e same =
    let is : left ≡ n = omega arith in
    rw (same, is) refl

pub count_rest : (pages : List (List RowData)) (n : ℕ) → length (joined (drop n pages)) ≤ length (joined pages)
count_rest pages zero = omega arith
count_rest [] (suc n) = omega arith
count_rest (page ∷ pages) (suc n) = omega (arith, count_rest pages n, length-append page (joined pages))

-- ---- the rows from one place up to another

pub joined_any : (pages : List (List RowData)) (at : ℕ) → joined pages ≡ joined (take at pages) ++ (page_at pages at ++ joined (drop (suc at) pages))
joined_any [] zero = refl
joined_any [] (suc at) = refl
joined_any (page ∷ pages) zero = refl
joined_any (page ∷ pages) (suc at) =
    ap (λ (r : List RowData). page ++ r) (joined_any pages at)
    ∙ sym (append_assoc page (joined (take at pages)) (page_at pages at ++ joined (drop (suc at) pages)))

from_zero : (n : ℕ) → 0 + n ≡ n
from_zero n = omega arith

one_more : (m n : ℕ) → suc m + n ≡ suc (m + n)
one_more m n = omega arith

module _ {X : Type 0} where
  take_front : (n : ℕ) (xs ys : List X) → n ≤ length xs → take n (xs ++ ys) ≡ take n xs
  take_front zero xs ys within = refl
  take_front (suc n) [] ys within = absurd (omega arith)
  take_front (suc n) (x ∷ xs) ys within = ap (λ (r : List X). x ∷ r) (take_front n xs ys (omega arith))

  drop_front : (n : ℕ) (xs ys : List X) → n ≤ length xs → drop n (xs ++ ys) ≡ drop n xs ++ ys
  drop_front zero xs ys within = refl
  drop_front (suc n) [] ys within = absurd (omega arith)
  drop_front (suc n) (x ∷ xs) ys within = drop_front n xs ys (omega arith)

  take_past : (xs ys : List X) (n : ℕ) → take (length xs + n) (xs ++ ys) ≡ xs ++ take n ys
  take_past [] ys n = ap (λ (k : ℕ). take k ys) (from_zero n)
  take_past (x ∷ xs) ys n = ap (λ (k : ℕ). take k (x ∷ (xs ++ ys))) (one_more (length xs) n) ∙ ap (λ (r : List X). x ∷ r) (take_past xs ys n)

  drop_past : (xs ys : List X) (n : ℕ) → drop (length xs + n) (xs ++ ys) ≡ drop n ys
  drop_past [] ys n = ap (λ (k : ℕ). drop k ys) (from_zero n)
  drop_past (x ∷ xs) ys n = ap (λ (k : ℕ). drop k (x ∷ (xs ++ ys))) (one_more (length xs) n) ∙ drop_past xs ys n

  take_none : (n : ℕ) (xs : List X) → xs ≡ [] → take n xs ≡ []
  take_none zero xs none = refl
  take_none (suc n) [] none = refl
  take_none (suc n) (x ∷ xs) none = absurd (cc)

pub front_is : (pages : List (List RowData)) (spot : Spot) → IsSpot pages spot → take (rows_before pages spot) (joined pages) ≡ joined (take spot.part pages) ++ take spot.row (page_at pages spot.part)
front_is pages spot is =
    let front = joined (take spot.part pages) in
    let page = page_at pages spot.part in
    let rest = joined (drop (suc spot.part) pages) in
    ap (take (length front + spot.row)) (joined_any pages spot.part)
    ∙ take_past front (page ++ rest) spot.row
    ∙ ap (λ (r : List RowData). front ++ r) (take_front spot.row page rest is.row_is)

pub back_is : (pages : List (List RowData)) (spot : Spot) → IsSpot pages spot → drop (rows_before pages spot) (joined pages) ≡ drop spot.row (page_at pages spot.part) ++ joined (drop (suc spot.part) pages)
back_is pages spot is =
    let front = joined (take spot.part pages) in
    let page = page_at pages spot.part in
    let rest = joined (drop (suc spot.part) pages) in
    ap (drop (length front + spot.row)) (joined_any pages spot.part)
    ∙ drop_past front (page ++ rest) spot.row
    ∙ drop_front spot.row page rest is.row_is

pub spot_inside : (pages : List (List RowData)) (spot : Spot) → IsSpot pages spot → rows_before pages spot ≤ length (joined pages)
spot_inside pages spot is =
    let front = joined (take spot.part pages) in
    let page = page_at pages spot.part in
    let rest = joined (drop (suc spot.part) pages) in
    omega (arith, ap length (joined_any pages spot.part), length-append front (page ++ rest), length-append page rest, is.row_is)

-- from a page on
pub drop_spot : (pages : List (List RowData)) (page row : ℕ) → drop (length (joined (take page pages)) + row) (joined pages) ≡ drop row (joined (drop page pages))
drop_spot pages zero row = ap (λ (k : ℕ). drop k (joined pages)) (from_zero row)
drop_spot [] (suc page) row = ap (λ (k : ℕ). drop k []) (from_zero row)
drop_spot (first ∷ pages) (suc page) row =
    let more : length (first ++ joined (take page pages)) + row ≡ length first + (length (joined (take page pages)) + row) = omega (arith, length-append first (joined (take page pages))) in
    ap (λ (n : ℕ). drop n (first ++ joined pages)) more ∙ drop_past first (joined pages) (length (joined (take page pages)) + row) ∙ drop_spot pages page row

count_to : (pages : List (List RowData)) (page n : ℕ) → length (joined (take (page + n) pages)) ≡ length (joined (take page pages)) + length (joined (take n (drop page pages)))
count_to pages zero n = ap (λ (k : ℕ). length (joined (take k pages))) (from_zero n) ∙ sym (from_zero (length (joined (take n pages))))
count_to [] (suc page) n =
    omega (arith, ap (λ (p : List (List RowData)). length (joined p)) (take_none (suc page + n) [] refl), ap (λ (p : List (List RowData)). length (joined p)) (take_none n [] refl))
count_to (first ∷ pages) (suc page) n =
    ap (λ (k : ℕ). length (joined (take k (first ∷ pages)))) (one_more page n)
    ∙ omega (arith, count_to pages page n, length-append first (joined (take (page + n) pages)), length-append first (joined (take page pages)))

pub count_upto : (pages : List (List RowData)) (from to : ℕ) → from ≤ to → length (joined (take to pages)) ≡ length (joined (take from pages)) + length (joined (take (to - from) (drop from pages)))
count_upto pages from to order =
    let same : from + (to - from) ≡ to = omega arith in
    subst (λ (n : ℕ). length (joined (take n pages)) ≡ length (joined (take from pages)) + length (joined (take (to - from) (drop from pages)))) same (count_to pages from (to - from))

-- a place in an earlier page has no more rows before it
pub none_between : (pages : List (List RowData)) (from to : Spot) → IsSpot pages from → IsSpot pages to → to.part < from.part → rows_before pages to ≤ rows_before pages from
none_between pages from to here there order =
    omega (arith, count_more pages to.part (omega (arith, here.part_is)), count_upto pages (suc to.part) from.part (omega arith), there.row_is)

pub page_after : (pages : List (List RowData)) (n : ℕ) → page_at (drop n pages) 0 ≡ page_at pages n
page_after pages zero = refl
page_after [] (suc n) = refl
page_after (page ∷ pages) (suc n) = page_after pages n

pub map_take : {X Y : Type 0} (f : X → Y) (xs : List X) (n : ℕ) → map f (take n xs) ≡ take n (map f xs)
map_take f xs zero = refl
map_take f [] (suc n) = refl
map_take f (x ∷ xs) (suc n) = ap (λ (r : List _). f x ∷ r) (map_take f xs n)

pub take_length : {X : Type 0} (n m : ℕ) (xs : List X) → n ≡ m → take n xs ≡ take m xs
take_length n m xs e = ap (λ (k : ℕ). take k xs) e

-- ---- what is lent

pub take_whole : {X : Type 0} (n : ℕ) (xs : List X) → length xs ≤ n → take n xs ≡ xs
take_whole zero [] long = refl
take_whole (suc n) [] long = refl
take_whole zero (x ∷ xs) long = absurd (omega arith)
take_whole (suc n) (x ∷ xs) long = ap (λ (r : List _). x ∷ r) (take_whole n xs (omega arith))

-- from behind a page on
pub drop_first : (n : ℕ) (pages : List (List RowData)) (first : List RowData) (rest nodes : List (List RowData)) → pages ≡ first ∷ rest → length first ≤ n → drop (n - length first) (joined (rest ++ nodes)) ≡ drop n (joined (pages ++ nodes))
drop_first n pages first rest nodes same past =
    let back : length first + (n - length first) ≡ n = omega (arith, past) in
    sym (drop_past first (joined (rest ++ nodes)) (n - length first))
    ∙ ap (λ (k : ℕ). drop k (first ++ joined (rest ++ nodes))) back
    ∙ sym (ap (λ (p : List (List RowData)). drop n (joined (p ++ nodes))) same)

-- where no page is left
pub drop_none : (n : ℕ) (pages nodes : List (List RowData)) → pages ≡ [] → n ≤ length (joined pages) → drop n (joined (pages ++ nodes)) ≡ joined nodes
drop_none n pages nodes none few =
    let zero_is : n ≡ 0 = omega (arith, few, ap (λ (p : List (List RowData)). length (joined p)) none) in
    ap (λ (k : ℕ). drop k (joined (pages ++ nodes))) zero_is ∙ ap (λ (p : List (List RowData)). joined (p ++ nodes)) none

pub within_start : (pages nodes : List (List RowData)) → HoldEach 1 pages → 0 < length (joined pages) → IsWithin 0 pages nodes
within_start [] nodes some more = absurd (omega arith)
within_start (page ∷ pages) nodes some more = omega (arith, some.0)

pub within_none : (pages nodes : List (List RowData)) → pages ≡ [] → nodes ≡ [] → IsWithin 0 pages nodes
within_none pages nodes none no_nodes = subst (λ (p : List (List RowData)). IsWithin 0 p nodes) (sym none) (refl, no_nodes)
