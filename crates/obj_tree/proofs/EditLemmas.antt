-- Pages after a change of one of them.
use Rattle.std.proofs.Common.{◌≡◌, ℕ, zero, suc, ◌+◌, ◌-◌, ◌<◌, ◌≤◌, List, [], ◌∷◌, ◌++◌, length, take, drop, refl, sym, ap, ◌∙◌, subst, arith, append_assoc, add-one, length-append, length-take, length-drop}
use Rattle.std.proofs.Math.Seq.{drop-cons}
use Rattle.std.proofs.lemmas.List.{append-nil}
use Rattle.kube_meta.specs.Rows.{RowData}
use Rattle.obj_tree.specs.Pages.{joined, AreSized, FullWith, AreFull, ArePagesOf, page_at, replaced, row_gone, FitsBefore, FitsAfter}
use Rattle.obj_tree.proofs.PageLemmas.{joined_replaced, sized-append, sized-take, sized-drop, sized_at, full_drop, Touches, full_from, touches_page, full_page, full_more, full_big, touches_more, touches_big, touches_skip, touches_at}

-- ---- neighbours

pub sized_with : (pages : List (List RowData)) (from to : ℕ) (others : List (List RowData)) → AreSized pages → AreSized others → AreSized (replaced pages from to others)
sized_with pages from to others sized those =
    sized-append (take from pages) (others ++ drop to pages) (sized-take pages from sized) (sized-append others (drop to pages) those (sized-drop pages to sized))

pub joined_take : (pages : List (List RowData)) (n : ℕ) → n < length pages → joined (take (suc n) pages) ≡ joined (take n pages) ++ page_at pages n
joined_take [] n inside = absurd (omega arith)
joined_take (page ∷ pages) zero inside = append-nil page
joined_take (page ∷ pages) (suc n) inside =
    ap (λ (r : List RowData). page ++ r) (joined_take pages n (omega arith)) ∙ sym (append_assoc page (joined (take n pages)) (page_at pages n))

pub joined_drop : (pages : List (List RowData)) (n : ℕ) → n < length pages → joined (drop n pages) ≡ page_at pages n ++ joined (drop (suc n) pages)
joined_drop pages n inside = ap joined (drop-cons pages n [] inside)

empty_of : (page : List RowData) → length page ≡ 0 → page ≡ []
empty_of [] e = refl
empty_of (row ∷ page) e = absurd (omega arith)

-- ---- one part and the next, as one in place of two

module _ (parts : List (List RowData)) (part : List RowData) where
  pub rows_with_next : (at : ℕ) → suc at < length parts → joined (replaced parts at (suc (suc at)) ((part ++ page_at parts (suc at)) ∷ [])) ≡ joined (replaced parts at (suc at) (part ∷ []))
  rows_with_next at more =
      joined_replaced parts ((part ++ page_at parts (suc at)) ∷ []) at (suc (suc at))
      ∙ ap (λ (r : List RowData). joined (take at parts) ++ r) (regroup part (page_at parts (suc at)) (joined (drop (suc (suc at)) parts)))
      ∙ ap (λ (r : List RowData). joined (take at parts) ++ ((part ++ []) ++ r)) (sym (joined_drop parts (suc at) more))
      ∙ sym (joined_replaced parts (part ∷ []) at (suc at))
    where
      regroup : (a b c : List RowData) → ((a ++ b) ++ []) ++ c ≡ (a ++ []) ++ (b ++ c)
      regroup a b c = simp (append_assoc, append-nil)

  pub rows_with_last : (n : ℕ) → n < length parts → joined (replaced parts n (suc (suc n)) ((page_at parts n ++ part) ∷ [])) ≡ joined (replaced parts (suc n) (suc (suc n)) (part ∷ []))
  rows_with_last n here =
      joined_replaced parts ((page_at parts n ++ part) ∷ []) n (suc (suc n))
      ∙ regroup (joined (take n parts)) (page_at parts n) part (joined (drop (suc (suc n)) parts))
      ∙ ap (λ (r : List RowData). r ++ ((part ++ []) ++ joined (drop (suc (suc n)) parts))) (sym (joined_take parts n here))
      ∙ sym (joined_replaced parts (part ∷ []) (suc n) (suc (suc n)))
    where
      regroup : (a b c d : List RowData) → a ++ (((b ++ c) ++ []) ++ d) ≡ (a ++ b) ++ ((c ++ []) ++ d)
      regroup a b c d = simp (append_assoc, append-nil)

-- ---- a page that a row was taken from

module _ (pages : List (List RowData)) (at : ℕ) (page : List RowData) (inside : at < length pages) (sized : AreSized pages) (full : AreFull pages) (smaller : length page + 1 ≡ length (page_at pages at)) where
  pub gone : length page ≡ 0 → ArePagesOf (replaced pages at (at + 1) []) (joined (replaced pages at (at + 1) (page ∷ [])))
  gone empty = record {
    rows_are =
        joined_replaced pages [] at (at + 1)
        ∙ ap (λ (r : List RowData). joined (take at pages) ++ ((r ++ []) ++ joined (drop (at + 1) pages))) (sym (empty_of page empty))
        ∙ sym (joined_replaced pages (page ∷ []) at (at + 1));
    sized = sized_with pages at (at + 1) [] sized tt;
    full = rw add-one (full_from pages at (drop (suc at) pages) (omega arith) full (full_drop pages (suc at) full)
        (touches_skip pages at (page_at pages at) (drop (suc at) pages) (omega arith) (sized-drop pages (suc at) sized) (touches_page pages at full inside)));
  }

  pub stays : 0 < length page → (FitsBefore pages at (length page) → ⊥) → (FitsAfter pages at (length page) → ⊥) → ArePagesOf (replaced pages at (at + 1) (page ∷ [])) (joined (replaced pages at (at + 1) (page ∷ [])))
  stays some not_before not_after = record {
    rows_are = refl;
    sized = sized_with pages at (at + 1) (page ∷ []) sized (some, omega (arith, sized_at pages at sized inside), tt);
    full = rw add-one (full_from pages at (page ∷ drop (suc at) pages) (omega arith) full (after, full_drop pages (suc at) full) (before at refl));
  }
    where
      -- the page after it
      after : FullWith page (drop (suc at) pages)
      after = by (drop (suc at) pages) refl
        where
          by : (rest : List (List RowData)) → drop (suc at) pages ≡ rest → FullWith page rest
          by [] e = tt
          by (next ∷ rest) e =
              let more : suc at < length pages = omega (arith, length-drop (suc at) pages, ap length e) in
              let cons = sym e ∙ drop-cons pages (suc at) [] more in
              let is : next ≡ page_at pages (suc at) = ap first cons in
              let big : length (page_at pages (suc at)) + length page ≤ 32 → ⊥ = λ few. not_after (omega arith, rw add-one few) in
              let long : 32 < length page + length (page_at pages (suc at)) = omega (arith, big) in
              rw is long
            where
              first : List (List RowData) → List RowData
              first [] = []
              first (x ∷ xs) = x

      -- and the one before
      before : (n : ℕ) → at ≡ n → Touches pages n (page ∷ drop (suc at) pages)
      before zero e = tt
      before (suc n) e =
          let same : at - 1 ≡ n = omega arith in
          let few_not : length (page_at pages n) + length page ≤ 32 → ⊥ = λ few. not_before (omega arith, rw same few) in
          touches_at pages n (page ∷ drop (suc at) pages) (omega arith) (omega (arith, few_not))

  pub with_next : 0 < length page → FitsAfter pages at (length page) → ArePagesOf (replaced pages at (at + 2) ((page ++ page_at pages (at + 1)) ∷ [])) (joined (replaced pages at (at + 1) (page ∷ [])))
  with_next some fits =
      let two : at + 2 ≡ suc (suc at) = omega arith in
      let next = page_at pages (suc at) in
      let more : suc at < length pages = omega (arith, fits.0) in
      let few : length next + length page ≤ 32 = rw add-one at fits.1 in
      let long : length (page ++ next) ≡ length page + length next = length-append page next in
      let cons = full_page pages at full inside in
      let pair : AreFull (page_at pages at ∷ next ∷ drop (suc (suc at)) pages) = subst (λ (r : List (List RowData)). AreFull (page_at pages at ∷ r)) (drop-cons pages (suc at) [] more) cons in
      let full_pair : 32 < length (page_at pages at) + length next = pair.0 in
      rw (add-one, two) (record {
        rows_are = rows_with_next pages page at more;
        sized = sized_with pages at (suc (suc at)) ((page ++ next) ∷ []) sized (omega (arith, long), omega (arith, long), tt);
        full = full_from pages at ((page ++ next) ∷ drop (suc (suc at)) pages) (omega arith) full
            (full_more next (page ++ next) (drop (suc (suc at)) pages) (omega (arith, long)) pair.1.0, pair.1.1)
            (touches_big pages at (page ++ next) (drop (suc (suc at)) pages) sized (omega (arith, long)));
      })

pub with_before : (pages : List (List RowData)) (at : ℕ) (page : List RowData) → at < length pages → AreSized pages → AreFull pages → length page + 1 ≡ length (page_at pages at) → 0 < length page → FitsBefore pages at (length page) → ArePagesOf (replaced pages (at - 1) (at - 1 + 2) ((page_at pages (at - 1) ++ page) ∷ [])) (joined (replaced pages at (at + 1) (page ∷ [])))
with_before pages zero page inside sized full smaller some fits = absurd (omega (arith, fits.0))
with_before pages (suc n) page inside sized full smaller some fits =
    let one : suc n - 1 ≡ n = omega arith in
    let two : n + 2 ≡ suc (suc n) = omega arith in
    let last = page_at pages n in
    let few : length last + length page ≤ 32 = rw one at fits.1 in
    let long : length (last ++ page) ≡ length last + length page = length-append last page in
    let here : n < length pages = omega arith in
    let cons = full_page pages n full here in
    let pair : AreFull (last ∷ page_at pages (suc n) ∷ drop (suc (suc n)) pages) = subst (λ (r : List (List RowData)). AreFull (last ∷ r)) (drop-cons pages (suc n) [] inside) cons in
    let full_pair : 32 < length last + length (page_at pages (suc n)) = pair.0 in
    let now : ArePagesOf (replaced pages n (suc (suc n)) ((last ++ page) ∷ [])) (joined (replaced pages (suc n) (suc (suc n)) (page ∷ []))) = record {
      rows_are = rows_with_last pages page n here;
      sized = sized_with pages n (suc (suc n)) ((last ++ page) ∷ []) sized (omega (arith, long), omega (arith, long), tt);
      full = full_from pages n ((last ++ page) ∷ drop (suc (suc n)) pages) (omega arith) full
          (full_big (last ++ page) (drop (suc (suc n)) pages) (omega (arith, long)) (sized-drop pages (suc (suc n)) sized), pair.1.1)
          (touches_more pages n last (last ++ page) (drop (suc n) pages) (drop (suc (suc n)) pages) (omega (arith, long)) (touches_page pages n full here));
    } in
    rw (one, add-one, two) now

pub one_less : (page : List RowData) (at : ℕ) → at < length page → length (row_gone page at) + 1 ≡ length page
one_less page at inside = omega (arith, length-append (take at page) (drop (at + 1) page), length-take at page, length-drop (at + 1) page)
