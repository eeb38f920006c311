-- What a change of one page does to all rows.
use Rattle.std.proofs.Common.{◌≡◌, ℕ, zero, suc, ◌+◌, ◌<◌, ◌≤◌, true, List, [], ◌∷◌, ◌++◌, length, take, drop, get_or, map, Some, None, Result, Ok, Err, refl, sym, ap, ◌∙◌, subst, arith, inl, inr, append_assoc, add-one, length-append, length-take, length-drop}
use Rattle.std.specs.Prelude.{nat_lt, MatchResult}
use Rattle.std.specs.List.{list_all}
use Rattle.std.proofs.Math.Seq.{drop-cons}
use Rattle.std.proofs.lemmas.Bool.{cases_Bool, ltb-true, ltb-false}
use Rattle.std.proofs.lemmas.List.{append-nil, take-append-drop, get_or-map, length-map}
use Rattle.kube_meta.specs.Rows.{RowData, key_of, row_with, is_behind}
use Rattle.obj_tree.specs.Maps.{is_below, with_row, without}
use Rattle.obj_tree.specs.Pages.{joined, AreSized, AreFull, IsPaged, ArePagesOf, page_at, replaced, row_put, row_gone, divided, IsPageFor, IsRowAt, IsGapAt, IsWithin}
use Rattle.obj_tree.specs.Places.{IsPlace}
use Rattle.obj_tree.specs.declared.search.Place.{Place}
use Rattle.obj_tree.proofs.MapLemmas.{are_rising, Cut, cut_gap, gap_row, cut_row, row_row, all_append, put_stays_rising, removal_stays_rising}
use Rattle.obj_tree.proofs.PageLemmas.{joined_at, joined_replaced, joined_divided, sized-drop, sized_at, full_drop, full_from, touches_page, full_page, full_more, full_big, touches_more, touches_big}
use Rattle.obj_tree.proofs.EditLemmas.{sized_with}

-- ---- a page that a row was put into, whole or in two

module _ (pages : List (List RowData)) (at : ℕ) (page : List RowData) (inside : at < length pages) (sized : AreSized pages) (full : AreFull pages) (grows : length (page_at pages at) ≤ length page) (by_one : length page ≤ length (page_at pages at) + 1) where
  divided_sized : AreSized (divided page)
  divided_sized = elim (cases_Bool (nat_lt 64 (length page))) [
    | inl pass ↦
        let long : 64 < length page = ltb-true 64 (length page) pass in
        let limits = sized_at pages at sized inside in
        rw pass (omega (arith, length-take 32 page, long), omega (arith, length-take 32 page), (omega (arith, length-drop 32 page, long), omega (arith, length-drop 32 page, limits.1, by_one), tt))
    | inr fail ↦
        let short : length page ≤ 64 = ltb-false 64 (length page) fail in
        let limits = sized_at pages at sized inside in
        rw fail (omega (arith, limits.0, grows), short, tt)
  ]

  pub put_sized : AreSized (replaced pages at (at + 1) (divided page))
  put_sized = sized_with pages at (at + 1) (divided page) sized divided_sized

  pub put_full : AreFull (replaced pages at (at + 1) (divided page))
  put_full = rw add-one (elim (cases_Bool (nat_lt 64 (length page))) [
    | inl pass ↦
        let long : 64 < length page = ltb-true 64 (length page) pass in
        let first : length (take 32 page) ≡ 32 = omega (arith, length-take 32 page, long) in
        let second : 32 < length (drop 32 page) = omega (arith, length-drop 32 page, long) in
        let rest = drop (suc at) pages in
        let pair : 32 < length (take 32 page) + length (drop 32 page) = omega (arith, second) in
        rw pass (full_from pages at (take 32 page ∷ drop 32 page ∷ rest) (omega arith) full
        (pair, (full_big (drop 32 page) rest (omega (arith, second)) (sized-drop pages (suc at) sized), full_drop pages (suc at) full))
        (touches_big pages at (take 32 page) (drop 32 page ∷ rest) sized (omega (arith, first))))
    | inr fail ↦
        let rest = drop (suc at) pages in
        rw fail (full_from pages at (page ∷ rest) (omega arith) full
        (full_more (page_at pages at) page rest grows (full_page pages at full inside).0, full_drop pages (suc at) full)
        (touches_more pages at (page_at pages at) page rest rest grows (touches_page pages at full inside)))
  ])

-- ---- the rows around a place

cut_page : (page : List RowData) (n : ℕ) (row : RowData) → n < length page → page ≡ take n page ++ (get_or page n row ∷ drop (suc n) page)
cut_page page n row inside = sym (take-append-drop n page) ∙ ap (λ (r : List RowData). take n page ++ r) (drop-cons page n row inside)

regroup : (f a c b : List RowData) → f ++ ((a ++ c) ++ b) ≡ (f ++ a) ++ (c ++ b)
regroup f a c b = simp append_assoc

module _ (pages : List (List RowData)) (key : List ℕ) (at : ℕ) (for_key : IsPageFor pages key at) where
  abbrev pub page : List RowData
  page = page_at pages at

  abbrev pub front : ℕ → List RowData
  front n = joined (take at pages) ++ take n page

  abbrev pub back : ℕ → List RowData
  back n = drop n page ++ joined (drop (suc at) pages)

  gap_is : (n : ℕ) → joined pages ≡ front n ++ back n
  gap_is n =
      joined_at pages at for_key.inside
      ∙ ap (λ (r : List RowData). joined (take at pages) ++ (r ++ joined (drop (suc at) pages))) (sym (take-append-drop n page))
      ∙ regroup (joined (take at pages)) (take n page) (drop n page) (joined (drop (suc at) pages))

  row_is : (n : ℕ) (row : RowData) → n < length page → joined pages ≡ front n ++ (get_or page n row ∷ back (suc n))
  row_is n row inside =
      gap_is n ∙ ap (λ (r : List RowData). front n ++ (r ++ joined (drop (suc at) pages))) (drop-cons page n row inside)

  put_is : (n to : ℕ) (row : RowData) → joined (replaced pages at (at + 1) (divided (row_put page n to row))) ≡ front n ++ (row ∷ back to)
  put_is n to row =
      rw add-one (joined_replaced pages (divided (row_put page n to row)) at (suc at)
      ∙ ap (λ (r : List RowData). joined (take at pages) ++ (r ++ joined (drop (suc at) pages))) (joined_divided (row_put page n to row))
      ∙ regroup (joined (take at pages)) (take n page) (row ∷ drop to page) (joined (drop (suc at) pages)))

  gone_is : (n : ℕ) → joined (replaced pages at (at + 1) (row_gone page n ∷ [])) ≡ front n ++ back (suc n)
  gone_is n =
      rw (add-one, add-one) (joined_replaced pages ((take n page ++ drop (suc n) page) ∷ []) at (suc at)
      ∙ ap (λ (r : List RowData). joined (take at pages) ++ (r ++ joined (drop (suc at) pages))) (append-nil (take n page ++ drop (suc n) page))
      ∙ regroup (joined (take at pages)) (take n page) (drop (suc n) page) (joined (drop (suc at) pages)))

  front_below : (n : ℕ) → list_all (is_below key) (take n page) ≡ true → list_all (is_below key) (front n) ≡ true
  front_below n low = all_append (is_below key) (joined (take at pages)) (take n page) for_key.before low

  back_above : (n : ℕ) → list_all (is_behind key) (drop n page) ≡ true → list_all (is_behind key) (back n) ≡ true
  back_above n high = all_append (is_behind key) (drop n page) (joined (drop (suc at) pages)) high for_key.after

  -- where the key has no row
  pub gap_cut : (n : ℕ) → IsGapAt page key n → Cut (joined pages) key (front n) (back n)
  gap_cut n gap = rw (gap_is n) (cut_gap (front n) (back n) key (front_below n gap.before) (back_above n gap.after))

  pub gap_none : (n : ℕ) → IsGapAt page key n → row_with (joined pages) key ≡ None
  gap_none n gap = rw (gap_is n) (gap_row (front n) (back n) key (front_below n gap.before) (back_above n gap.after))

  -- where it has one
  pub row_cut : (n : ℕ) (row : RowData) → IsRowAt page key n → Cut (joined pages) key (front n) (back (suc n))
  row_cut n row is = rw (row_is n row is.inside) (cut_row (front n) (back (suc n)) (get_or page n row) key (is.has_key row) (front_below n is.before) (back_above (suc n) is.after))

  pub row_some : (n : ℕ) (row : RowData) → IsRowAt page key n → row_with (joined pages) key ≡ Some (get_or page n row)
  row_some n row is = rw (row_is n row is.inside) (row_row (front n) (back (suc n)) (get_or page n row) key (is.has_key row) (front_below n is.before))

-- ---- a put

pub record IsPut (pages others : List (List RowData)) (row : RowData) : Type 0 where
  pub rows_are : joined others ≡ with_row (joined pages) row
  pub paged : IsPaged others

put_length : (page : List RowData) (from to : ℕ) (row : RowData) → length (row_put page from to row) ≡ length (take from page) + (1 + length (drop to page))
put_length page from to row = omega (arith, length-append (take from page) (row ∷ drop to page))

put_paged : (pages : List (List RowData)) (row : RowData) (at from to : ℕ) → IsPaged pages → at < length pages → from ≤ to → to ≤ from + 1 → to ≤ length (page_at pages at) → joined (replaced pages at (at + 1) (divided (row_put (page_at pages at) from to row))) ≡ with_row (joined pages) row → IsPaged (replaced pages at (at + 1) (divided (row_put (page_at pages at) from to row)))
put_paged pages row at from to paged inside order near within rows =
    let page = page_at pages at in
    let new = row_put page from to row in
    let long = put_length page from to row in
    let grows : length page ≤ length new = omega (arith, long, length-take from page, length-drop to page) in
    let by_one : length new ≤ length page + 1 = omega (arith, long, length-take from page, length-drop to page) in
    record {
      sized = put_sized pages at new inside paged.sized paged.full grows by_one;
      full = put_full pages at new inside paged.sized paged.full grows by_one;
      rising = rw rows (put_stays_rising (joined pages) row paged.rising);
    }

pub with_cut : (rows front back : List RowData) (row : RowData) → Cut rows (key_of row) front back → with_row rows row ≡ front ++ (row ∷ back)
with_cut rows front back row cut = rw (cut.below_is, cut.above_is) refl

pub without_cut : (rows front back : List RowData) (key : List ℕ) → Cut rows key front back → without rows key ≡ front ++ back
without_cut rows front back key cut = rw (cut.below_is, cut.above_is) refl

module _ (pages : List (List RowData)) (row : RowData) (at n : ℕ) (paged : IsPaged pages) (for_key : IsPageFor pages (key_of row) at) where
  pub put_in_gap : IsGapAt (page_at pages at) (key_of row) n → IsPut pages (replaced pages at (at + 1) (divided (row_put (page_at pages at) n n row))) row
  put_in_gap gap =
      let rows = put_is pages (key_of row) at for_key n n row ∙ sym (with_cut (joined pages) _ _ row (gap_cut pages (key_of row) at for_key n gap)) in
      record { rows_are = rows; paged = put_paged pages row at n n paged for_key.inside (omega arith) (omega arith) gap.inside rows }

  pub put_in_gap_len : IsGapAt (page_at pages at) (key_of row) n → length (joined (replaced pages at (at + 1) (divided (row_put (page_at pages at) n n row)))) ≡ length (joined pages) + 1
  put_in_gap_len gap =
      rw (put_is pages (key_of row) at for_key n n row, gap_is pages (key_of row) at for_key n)
      (omega (arith, length-append (front pages (key_of row) at for_key n) (row ∷ back pages (key_of row) at for_key n), length-append (front pages (key_of row) at for_key n) (back pages (key_of row) at for_key n)))

  pub put_on_row : IsRowAt (page_at pages at) (key_of row) n → IsPut pages (replaced pages at (at + 1) (divided (row_put (page_at pages at) n (n + 1) row))) row
  put_on_row is =
      let rows : joined (replaced pages at (at + 1) (divided (row_put (page_at pages at) n (n + 1) row))) ≡ with_row (joined pages) row =
      put_is pages (key_of row) at for_key n (n + 1) row ∙ rw add-one (sym (with_cut (joined pages) _ _ row (row_cut pages (key_of row) at for_key n row is))) in
      record { rows_are = rows; paged = put_paged pages row at n (n + 1) paged for_key.inside (omega arith) (omega arith) (omega (arith, is.inside)) rows }

  pub put_on_row_len : IsRowAt (page_at pages at) (key_of row) n → length (joined (replaced pages at (at + 1) (divided (row_put (page_at pages at) n (n + 1) row)))) ≡ length (joined pages)
  put_on_row_len is =
      let before = front pages (key_of row) at for_key n in
      let after = back pages (key_of row) at for_key (suc n) in
      let old = row_is pages (key_of row) at for_key n row is.inside in
      let new : joined (replaced pages at (at + 1) (divided (row_put (page_at pages at) n (n + 1) row))) ≡ before ++ (row ∷ after) = put_is pages (key_of row) at for_key n (n + 1) row ∙ rw add-one refl in
      omega (arith, ap length old, ap length new, length-append before (row ∷ after), length-append before (get_or (page_at pages at) n row ∷ after))

-- ---- a removal

module _ (pages others : List (List RowData)) (key : List ℕ) (at n : ℕ) (row : RowData) (paged : IsPaged pages) (for_key : IsPageFor pages key at) (is : IsRowAt (page_at pages at) key n) (now : ArePagesOf others (joined (replaced pages at (at + 1) (row_gone (page_at pages at) n ∷ [])))) where
  pub gone_rows : joined others ≡ without (joined pages) key
  gone_rows = now.rows_are ∙ gone_is pages key at for_key n ∙ sym (without_cut (joined pages) _ _ key (row_cut pages key at for_key n row is))

  pub gone_paged : IsPaged others
  gone_paged = record { sized = now.sized; full = now.full; rising = rw gone_rows (removal_stays_rising (joined pages) key paged.rising) }

  pub gone_len : length (joined others) + 1 ≡ length (joined pages)
  gone_len =
      let before = front pages key at for_key n in
      let after = back pages key at for_key (suc n) in
      let old = row_is pages key at for_key n row is.inside in
      let new = now.rows_are ∙ gone_is pages key at for_key n in
      omega (arith, ap length old, ap length new, length-append before after, length-append before (get_or (page_at pages at) n row ∷ after))

-- where there is no row with the key, nothing is removed
pub nothing_gone : (pages : List (List RowData)) (key : List ℕ) (at n : ℕ) → IsPageFor pages key at → IsGapAt (page_at pages at) key n → joined pages ≡ without (joined pages) key
nothing_gone pages key at n for_key gap =
    gap_is pages key at for_key n ∙ sym (without_cut (joined pages) _ _ key (gap_cut pages key at for_key n gap))

-- ---- a place that was found

pub place_moved : (pages others : List (List RowData)) (key other : List ℕ) (place : Place) → pages ≡ others → key ≡ other → IsPlace pages key place → IsPlace others other place
place_moved pages others key other place same equal is =
    subst (λ (k : List ℕ). IsPlace others k place) equal (subst (λ (p : List (List RowData)). IsPlace p key place) same is)

pub place_ok : (pages : List (List RowData)) (key : List ℕ) (place : Place) (n : ℕ) → IsPlace pages key place → place.row ≡ Ok n → IsRowAt (page_at pages place.page) key n
place_ok pages key place n is e =
    subst (λ (r : Result ℕ ℕ). MatchResult r (IsRowAt (page_at pages place.page) key) (IsGapAt (page_at pages place.page) key)) e is.row_is

pub place_err : (pages : List (List RowData)) (key : List ℕ) (place : Place) (n : ℕ) → IsPlace pages key place → place.row ≡ Err n → IsGapAt (page_at pages place.page) key n
place_err pages key place n is e =
    subst (λ (r : Result ℕ ℕ). MatchResult r (IsRowAt (page_at pages place.page) key) (IsGapAt (page_at pages place.page) key)) e is.row_is

-- the row that an index reads
pub row_read : {X : Type 0} (f : X → RowData) (xs : List X) (rows : List RowData) (n : ℕ) (x : X) (d : RowData) → n < length rows → map f xs ≡ rows → x ≡ get_or xs n x → f x ≡ get_or rows n d
row_read f xs rows n x d inside same is =
    let here : n < length xs = omega (arith, inside, length-map xs f, ap length same) in
    ap f is ∙ sym (get_or-map f xs n x d here) ∙ ap (λ (r : List RowData). get_or r n d) same

-- one row alone
pub one_paged : (row : RowData) → IsPaged ((row ∷ []) ∷ [])
one_paged row = record { sized = (omega arith, omega arith, tt); full = (tt, tt); rising = are_rising (row ∷ []) (refl, tt) }

-- the first page
pub sole_page : (pages : List (List RowData)) (row : RowData) → pages ≡ (row ∷ []) ∷ [] → IsPaged pages
sole_page pages row is = rw is (one_paged row)

-- ---- what is lent

taken : (rows back : List RowData) (n : ℕ) (d : RowData) → n < length rows → drop n (rows ++ back) ≡ get_or rows n d ∷ drop (suc n) (rows ++ back)
taken [] back n d inside = absurd (omega arith)
taken (row ∷ rows) back zero d inside = refl
taken (row ∷ rows) back (suc n) d inside = taken rows back n d (omega arith)

-- the row at a place of the first page, and those after it
pub first_taken : (pages : List (List RowData)) (first : List RowData) (rest : List (List RowData)) (n : ℕ) (d : RowData) → pages ≡ first ∷ rest → n < length first → drop n (joined pages) ≡ get_or first n d ∷ drop (n + 1) (joined pages)
first_taken pages first rest n d same inside = rw (same, add-one) (taken first (joined rest) n d inside)

pub within_first : (pages nodes : List (List RowData)) (first : List RowData) (rest : List (List RowData)) (n : ℕ) → pages ≡ first ∷ rest → IsWithin n pages nodes → n < length first
within_first pages nodes first rest n same within = subst (λ (p : List (List RowData)). IsWithin n p nodes) same within
