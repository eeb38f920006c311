-- Pages that follow each other are the whole list.
use Rattle.std.proofs.Common.{◌≡◌, ℕ, zero, suc, ◌+◌, ◌-◌, ◌<◌, Bool, true, false, List, [], ◌∷◌, ◌++◌, map, filter, length, take, drop, Option, Some, None, refl, sym, ap, ◌∙◌, subst, arith, inl, inr, Less, Equal, Greater, Ordering, ltb}
use Rattle.std.proofs.lemmas.Bool.{cases_Bool, and_parts, ltb-true, ltb-false}
use Rattle.std.proofs.lemmas.List.{take_all, drop-drop, take-append-drop, length-take, length-drop}
use Rattle.std.specs.List.{list_all, slice_get}
use Rattle.kube_meta.specs.Rows.{RowData, key_of, is_behind, behind}
use Rattle.kube_meta.proofs.RowLemmas.{Rising, rising, rising_kept, behind_row, lt_trans}
use Rattle.rev_log.specs.Logs.{Log}
use Rattle.select_all.specs.declared.selection.Selection.{Selection}
use Rattle.select_all.specs.Listings.{IsListing}
use Rattle.select_all.specs.Selecting.{selects}
use Rattle.list_rules.specs.Pages.{page_of, next_of, left_of, Page, Follow, joined_rows}
use Rattle.list_rules.specs.Laws.{PagesJoin, LeftsAreCounted}

all_kept : (p : RowData → Bool) (xs : List RowData) → list_all p xs ≡ true → filter p xs ≡ xs
all_kept p [] all = refl
all_kept p (x ∷ xs) all =
    let both = and_parts (p x) (list_all p xs) all in
    rw (both.0) (ap (λ (l : List RowData). x ∷ l) (all_kept p xs both.1))

-- ---- pages

get_drop : (m : ℕ) (xs : List RowData) (n : ℕ) → slice_get (drop m xs) n ≡ slice_get xs (m + n)
get_drop zero xs n = ap (slice_get xs) {x = n} {y = zero + n} (omega arith)
get_drop (suc m) [] n = refl
get_drop (suc m) (x ∷ xs) n = get_drop m xs n ∙ ap (slice_get (x ∷ xs)) {x = suc (m + n)} {y = suc m + n} (omega arith)

there : (xs : List RowData) (n : ℕ) → n < length xs → (x : RowData) × (slice_get xs n ≡ Some x)
there [] n within = absurd (omega arith)
there (x ∷ xs) zero within = (x, refl)
there (x ∷ xs) (suc n) within = there xs n (omega arith)

-- a page with no token has all that is left
last_page : (limit : ℕ) (rest : List RowData) → next_of limit rest ≡ None → page_of limit rest ≡ rest
last_page zero rest none = refl
last_page (suc n) rest none = elim (cases_Bool (ltb (suc n) (length rest))) [
  | inl more ↦
      let row = there rest n (let less = ltb-true (suc n) (length rest) more in omega arith) in
      let e : next_of (suc n) rest ≡ Some (key_of row.0) = rw (more, row.1) refl in
      let bad : Some (key_of row.0) ≡ None = sym e ∙ none in
      absurd (cc)
  | inr few ↦ take_all (suc n) rest (ltb-false (suc n) (length rest) few)
]

-- a page with a token ends with a row that has the token's key, and rows are left behind it
record IsCut (limit : ℕ) (rest : List RowData) (key : List ℕ) : Type 0 where
  n : ℕ
  row : RowData
  limit_is : limit ≡ suc n
  within : suc n < length rest
  row_is : slice_get rest n ≡ Some row
  key_is : key_of row ≡ key

cut_page : (limit : ℕ) (rest : List RowData) (key : List ℕ) → next_of limit rest ≡ Some key → IsCut limit rest key
cut_page zero rest key some = absurd (cc)
cut_page (suc n) rest key some = elim (cases_Bool (ltb (suc n) (length rest))) [
  | inl more ↦
      let row = there rest n (let less = ltb-true (suc n) (length rest) more in omega arith) in
      let e : next_of (suc n) rest ≡ Some (key_of row.0) = rw (more, row.1) refl in
      let same : Some (key_of row.0) ≡ Some key = sym e ∙ some in
      record { n = n; row = row.0; limit_is = refl; within = ltb-true (suc n) (length rest) more; row_is = row.1; key_is = cc }
  | inr few ↦
      let e : next_of (suc n) rest ≡ None = rw few refl in
      let bad : None ≡ Some key = sym e ∙ some in
      absurd (cc)
]

-- behind that key stands the rest
behind_cut : (list : List RowData) → Rising list → (m limit : ℕ) (key : List ℕ) → (cut : IsCut limit (drop m list) key)
    → behind (Some key) list ≡ drop (suc (m + cut.n)) list
behind_cut list is m limit key cut =
    ap (λ (k : List ℕ). behind (Some k) list) (sym cut.key_is) ∙ behind_row list (m + cut.n) cut.row is (sym (get_drop m list cut.n) ∙ cut.row_is)

from_place : (list : List RowData) → Rising list → (m : ℕ) (after : Option (List ℕ)) → behind after list ≡ drop m list
    → (page : Page) (more : List Page) → Follow list after page more → joined_rows page more ≡ drop m list
from_place list is m after here page [] follows =
    let is_page = follows.0 in
    let none = follows.1 in
    is_page.rows_are ∙ ap (page_of page.limit) here
    ∙ last_page page.limit (drop m list) (ap (next_of page.limit) (sym here) ∙ sym is_page.next_is ∙ none)
from_place list is m after here page (another ∷ more) follows =
    let is_page = follows.0 in
    let key = follows.1.0 in
    let next = follows.1.1.0 in
    let follow = follows.1.1.1 in
    let rest = drop m list in
    let cut : IsCut page.limit rest key = cut_page page.limit rest key (ap (next_of page.limit) (sym here) ∙ sym is_page.next_is ∙ next) in
    let later : joined_rows another more ≡ drop (suc (m + cut.n)) list =
    from_place list is (suc (m + cut.n)) (Some key) (behind_cut list is m page.limit key cut) another more follow in
    let first : page.rows ≡ take (suc cut.n) rest = is_page.rows_are ∙ ap (page_of page.limit) here ∙ ap (λ (n : ℕ). page_of n rest) cut.limit_is in
    let behind_it : drop (suc (m + cut.n)) list ≡ drop (suc cut.n) rest = ap (λ (n : ℕ). drop n list) {x = suc (m + cut.n)} {y = m + suc cut.n} (omega arith) ∙ sym (drop-drop (suc cut.n) m list) in
    ap (λ (l : List RowData). l ++ joined_rows another more) first ∙ ap (λ (l : List RowData). take (suc cut.n) rest ++ l) (later ∙ behind_it)
    ∙ take-append-drop (suc cut.n) rest

-- ---- from any key on

-- what is behind a row that is behind the key is behind the key
further : (key : List ℕ) (x : RowData) (xs : List RowData) → is_behind key x ≡ true → list_all (is_behind (key_of x)) xs ≡ true → list_all (is_behind key) xs ≡ true
further key x [] here all = refl
further key x (y ∷ xs) here all =
    let both = and_parts (is_behind (key_of x) y) (list_all (is_behind (key_of x)) xs) all in
    let this : is_behind key y ≡ true = lt_trans key (key_of x) (key_of y) here both.0 in
    rw this (further key x xs here both.1)

-- so the rows behind a key are the last ones
place_behind : (key : List ℕ) (list : List RowData) → Rising list → (m : ℕ) × (behind (Some key) list ≡ drop m list)
place_behind key [] is = (0, refl)
place_behind key (x ∷ xs) is = elim (cases_Bool (is_behind key x)) [
  | inl here ↦ (0, all_kept (is_behind key) (x ∷ xs) (rw here (further key x xs here is.0)))
  | inr before ↦
      let later = place_behind key xs is.1 in
      (suc later.0, rw before later.1)
]

place_after : (after : Option (List ℕ)) (list : List RowData) → Rising list → (m : ℕ) × (behind after list ≡ drop m list)
place_after None list is = (0, refl)
place_after (Some key) list is = place_behind key list is

listing_rises : (log : Log) (s : Selection) (at : ℕ) (list : List RowData) → IsListing log s at list → Rising list
listing_rises log s at list is = subst Rising (sym is.selected) (rising_kept (λ row. selects s row.obj) is.state (rising is.state is.is_state.rising))

pub pages_join : PagesJoin
pages_join log s at list after page more is follow =
    let rises = listing_rises log s at list is in
    let place = place_after after list rises in
    from_place list rises place.0 after place.1 page more follow ∙ sym place.1

-- ---- what is left

-- a page and what is left behind it are all
counted : (limit : ℕ) (rest : List RowData) → length (page_of limit rest) + left_of limit rest ≡ length rest
counted zero rest = omega arith
counted (suc n) rest = omega (arith, length-take (suc n) rest)

-- some are left behind a token
some_left : (m limit : ℕ) (list : List RowData) (key : List ℕ) (cut : IsCut limit (drop m list) key)
    → (0 < left_of limit (drop m list)) × (left_of limit (drop m list) ≡ length (drop (suc (m + cut.n)) list))
some_left m limit list key cut =
    let is : left_of limit (drop m list) ≡ length (drop m list) - suc cut.n = ap (λ (n : ℕ). left_of n (drop m list)) cut.limit_is in
    (omega (arith, is, cut.within), omega (arith, is, cut.within, length-drop m list, length-drop (suc (m + cut.n)) list))

-- none where there is no token
none_left : (limit : ℕ) (rest : List RowData) → page_of limit rest ≡ rest → left_of limit rest ≡ 0
none_left zero rest all = refl
none_left (suc n) rest all = omega (arith, ap length all, length-take (suc n) rest)

pub lefts_are_counted : LeftsAreCounted
lefts_are_counted log s at list after page is is_page =
    let rises = listing_rises log s at list is in
    let place = place_after after list rises in
    let rest = drop place.0 list in
    let same : left_of page.limit (behind after list) ≡ left_of page.limit rest = ap (left_of page.limit) place.1 in
    record {
      rest = ap (λ (rows : List RowData). length rows + left_of page.limit (behind after list)) is_page.rows_are ∙ counted page.limit (behind after list);
      more = λ key next.
          let cut : IsCut page.limit rest key = cut_page page.limit rest key (ap (next_of page.limit) (sym place.1) ∙ sym is_page.next_is ∙ next) in
          let some = some_left place.0 page.limit list key cut in
          (omega (arith, same, some.0), same ∙ some.1 ∙ ap length (sym (behind_cut list rises place.0 page.limit key cut)));
      end_is = λ none. same ∙ none_left page.limit rest (last_page page.limit rest (ap (next_of page.limit) (sym place.1) ∙ sym is_page.next_is ∙ none));
    }
