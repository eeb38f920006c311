-- Pages as a list of lists: their edits, their sizes, and the rows of all.
use Rattle.std.proofs.Common.{◌≡◌, ℕ, zero, suc, ◌+◌, ◌*◌, ◌<◌, ◌≤◌, List, [], ◌∷◌, ◌++◌, length, map, take, drop, get_or, set, refl, sym, ap, ◌∙◌, subst, arith, inl, inr, append_assoc, add-one, length-append}
use Rattle.std.specs.Prelude.{nat_lt, not, true, false, Result, Ok, Err, OnErr}
use Rattle.std.specs.List.{insert, remove}
use Rattle.std.proofs.Math.Seq.{drop-cons}
use Rattle.std.proofs.lemmas.Bool.{cases_Bool, true≢false}
use Rattle.std.proofs.lemmas.Bool.Decides.{nat_tests}
use Rattle.std.proofs.lemmas.List.{append-nil, take-append-drop, get_or-map, length-take, length-drop}
use Rattle.kube_meta.specs.Rows.{RowData, AreRising}
use Rattle.obj_tree.specs.Pages.{joined, HoldEach, AreParts, AreSized, FullWith, AreFull, IsPaged, page_at, replaced, row_put, row_gone, divided}
use Rattle.obj_tree.proofs.MapLemmas.{Rising, rising, are_rising, rising_parts}

-- ---- edits of a list, seen through a function

module _ {X Y : Type 0} (f : X → Y) where
  set_cut : (xs : List X) (i : ℕ) (x : X) → i < length xs → map f (set xs i x) ≡ take i (map f xs) ++ (f x ∷ drop (suc i) (map f xs))
  set_cut [] i x inside = absurd (omega arith)
  set_cut (y ∷ xs) zero x inside = refl
  set_cut (y ∷ xs) (suc i) x inside = ap (λ rest. f y ∷ rest) (set_cut xs i x (omega arith))

  both_cut : (xs : List X) (i : ℕ) (z x y : X) → i < length xs → map f (set (set (insert xs (suc i) z) i x) (suc i) y) ≡ take i (map f xs) ++ (f x ∷ f y ∷ drop (suc i) (map f xs))
  both_cut [] i z x y inside = absurd (omega arith)
  both_cut (w ∷ xs) zero z x y inside = refl
  both_cut (w ∷ xs) (suc i) z x y inside = ap (λ rest. f w ∷ rest) (both_cut xs i z x y (omega arith))

  pair_cut : (xs : List X) (i : ℕ) (z x : X) → i < length xs → map f (set (insert xs (suc i) z) i x) ≡ take i (map f xs) ++ (f x ∷ f z ∷ drop (suc i) (map f xs))
  pair_cut [] i z x inside = absurd (omega arith)
  pair_cut (w ∷ xs) zero z x inside = refl
  pair_cut (w ∷ xs) (suc i) z x inside = ap (λ rest. f w ∷ rest) (pair_cut xs i z x (omega arith))

  back_cut : (xs : List X) (i : ℕ) (z x y : X) → i < length xs → y ≡ get_or (insert xs (suc i) z) i y → f x ≡ f y → map f (remove (set (insert xs (suc i) z) i x) (suc i)) ≡ map f xs
  back_cut [] i z x y inside is same = absurd (omega arith)
  back_cut (w ∷ xs) zero z x y inside is same = ap (λ v. v ∷ map f xs) (same ∙ ap f is)
  back_cut (w ∷ xs) (suc i) z x y inside is same = ap (λ rest. f w ∷ rest) (back_cut xs i z x y (omega arith) is same)

  remove_cut : (xs : List X) (i : ℕ) → i < length xs → map f (remove xs i) ≡ take i (map f xs) ++ drop (suc i) (map f xs)
  remove_cut [] i inside = absurd (omega arith)
  remove_cut (y ∷ xs) zero inside = refl
  remove_cut (y ∷ xs) (suc i) inside = ap (λ rest. f y ∷ rest) (remove_cut xs i (omega arith))

  joined_cut : (xs : List X) (i : ℕ) (x : X) → suc i < length xs → map f (set (remove xs (suc i)) i x) ≡ take i (map f xs) ++ (f x ∷ drop (suc (suc i)) (map f xs))
  joined_cut [] i x inside = absurd (omega arith)
  joined_cut (y ∷ []) i x inside = absurd (omega arith)
  joined_cut (y ∷ z ∷ xs) zero x inside = refl
  joined_cut (y ∷ z ∷ xs) (suc i) x inside = ap (λ rest. f y ∷ rest) (joined_cut (z ∷ xs) i x (omega arith))

  -- a write that isn't seen
  pub set_same : (xs : List X) (i : ℕ) (x y : X) → i < length xs → y ≡ get_or xs i y → f x ≡ f y → map f (set xs i x) ≡ map f xs
  set_same [] i x y inside is same = absurd (omega arith)
  set_same (z ∷ xs) zero x y inside is same = ap (λ v. v ∷ map f xs) (same ∙ ap f is)
  set_same (z ∷ xs) (suc i) x y inside is same = ap (λ rest. f z ∷ rest) (set_same xs i x y (omega arith) is same)

  pub insert_row : (xs : List X) (i : ℕ) (x : X) → i ≤ length xs → map f (insert xs i x) ≡ take i (map f xs) ++ (f x ∷ drop i (map f xs))
  insert_row xs zero x within = refl
  insert_row [] (suc i) x within = absurd (omega arith)
  insert_row (y ∷ xs) (suc i) x within = ap (λ rest. f y ∷ rest) (insert_row xs i x (omega arith))

  pub set_page : (xs : List X) (i : ℕ) (x : X) (y : Y) → i < length xs → f x ≡ y → map f (set xs i x) ≡ take i (map f xs) ++ ((y ∷ []) ++ drop (i + 1) (map f xs))
  set_page xs i x y inside is =
      rw add-one (set_cut xs i x inside ∙ ap (λ v. take i (map f xs) ++ (v ∷ drop (suc i) (map f xs))) is)

  pub set_both : (xs : List X) (i : ℕ) (z x b : X) (y w : Y) → i < length xs → f x ≡ y → f b ≡ w → map f (set (set (insert xs (i + 1) z) i x) (i + 1) b) ≡ take i (map f xs) ++ ((y ∷ w ∷ []) ++ drop (i + 1) (map f xs))
  set_both xs i z x b y w inside is second =
      rw add-one (both_cut xs i z x b inside ∙ ap (λ v. take i (map f xs) ++ (v ∷ f b ∷ drop (suc i) (map f xs))) is ∙ ap (λ v. take i (map f xs) ++ (y ∷ v ∷ drop (suc i) (map f xs))) second)

  pub set_pair : (xs : List X) (i : ℕ) (z x : X) (y w : Y) → i < length xs → f x ≡ y → f z ≡ w → map f (set (insert xs (i + 1) z) i x) ≡ take i (map f xs) ++ ((y ∷ w ∷ []) ++ drop (i + 1) (map f xs))
  set_pair xs i z x y w inside is second =
      rw add-one (pair_cut xs i z x inside ∙ ap (λ v. take i (map f xs) ++ (v ∷ f z ∷ drop (suc i) (map f xs))) is ∙ ap (λ v. take i (map f xs) ++ (y ∷ v ∷ drop (suc i) (map f xs))) second)

  -- what was put in, taken out again
  pub set_back : (xs : List X) (i : ℕ) (z x y : X) → i < length xs → y ≡ get_or (insert xs (i + 1) z) i y → f x ≡ f y → map f (remove (set (insert xs (i + 1) z) i x) (i + 1)) ≡ map f xs
  set_back xs i z x y inside is same =
      let on : suc i ≡ i + 1 = omega arith in
      subst (λ (n : ℕ). map f (remove (set (insert xs n z) i x) n) ≡ map f xs) on (back_cut xs i z x y inside (subst (λ (n : ℕ). y ≡ get_or (insert xs n z) i y) (sym on) is) same)

  pub set_joined : (xs : List X) (i : ℕ) (x : X) (y : Y) → i + 1 < length xs → f x ≡ y → map f (set (remove xs (i + 1)) i x) ≡ take i (map f xs) ++ ((y ∷ []) ++ drop (i + 2) (map f xs))
  set_joined xs i x y inside is =
      let two : i + 2 ≡ suc (suc i) = omega arith in
      rw (add-one, two) (joined_cut xs i x (omega arith) ∙ ap (λ v. take i (map f xs) ++ (v ∷ drop (suc (suc i)) (map f xs))) is)

  pub set_none : (xs : List X) (i : ℕ) → i < length xs → map f (remove xs i) ≡ take i (map f xs) ++ drop (i + 1) (map f xs)
  set_none xs i inside = rw add-one (remove_cut xs i inside)

-- what holds of any refusal
pub OnErr-always : {A E : Type 0} (r : Result A E) (P : Type 0) → P → OnErr r P
OnErr-always (Ok x) P p = tt
OnErr-always (Err e) P p = p

-- ---- the rows of all pages

pub joined-append : (xs ys : List (List RowData)) → joined (xs ++ ys) ≡ joined xs ++ joined ys
joined-append [] ys = refl
joined-append (x ∷ xs) ys = ap (λ (r : List RowData). x ++ r) (joined-append xs ys) ∙ sym (append_assoc x (joined xs) (joined ys))

pub joined_at : (pages : List (List RowData)) (at : ℕ) → at < length pages → joined pages ≡ joined (take at pages) ++ (page_at pages at ++ joined (drop (suc at) pages))
joined_at [] at inside = absurd (omega arith)
joined_at (page ∷ pages) zero inside = refl
joined_at (page ∷ pages) (suc at) inside =
    ap (λ (r : List RowData). page ++ r) (joined_at pages at (omega arith))
    ∙ sym (append_assoc page (joined (take at pages)) (page_at pages at ++ joined (drop (suc at) pages)))

pub joined_replaced : (pages others : List (List RowData)) (from to : ℕ) → joined (replaced pages from to others) ≡ joined (take from pages) ++ (joined others ++ joined (drop to pages))
joined_replaced pages others from to =
    joined-append (take from pages) (others ++ drop to pages)
    ∙ ap (λ (r : List RowData). joined (take from pages) ++ r) (joined-append others (drop to pages))

pub joined_divided : (page : List RowData) → joined (divided page) ≡ page
joined_divided page = elim (cases_Bool (nat_lt 64 (length page))) [
  | inl pass ↦ rw pass (ap (λ (r : List RowData). take 32 page ++ r) (append-nil (drop 32 page)) ∙ take-append-drop 32 page)
  | inr fail ↦ rw fail (append-nil page)
]

pub undivided : (page : List RowData) → true ≡ not (nat_lt 64 (length page)) → divided page ≡ page ∷ []
undivided page small = elim (cases_Bool (nat_lt 64 (length page))) [
  | inl pass ↦ absurd (true≢false (small ∙ ap not pass))
  | inr fail ↦ rw fail refl
]

pub two_halves : (page : List RowData) → false ≡ not (nat_lt 64 (length page)) → divided page ≡ take 32 page ∷ drop 32 page ∷ []
two_halves page long = elim (cases_Bool (nat_lt 64 (length page))) [
  | inl pass ↦ rw pass refl
  | inr fail ↦ absurd (true≢false (sym (long ∙ ap not fail)))
]

-- ---- sizes

pub sized-append : (xs ys : List (List RowData)) → AreSized xs → AreSized ys → AreSized (xs ++ ys)
sized-append [] ys these those = those
sized-append (x ∷ xs) ys these those = (these.0, these.1, sized-append xs ys these.2 those)

pub sized-take : (xs : List (List RowData)) (n : ℕ) → AreSized xs → AreSized (take n xs)
sized-take xs zero sized = tt
sized-take [] (suc n) sized = tt
sized-take (x ∷ xs) (suc n) sized = (sized.0, sized.1, sized-take xs n sized.2)

pub sized-drop : (xs : List (List RowData)) (n : ℕ) → AreSized xs → AreSized (drop n xs)
sized-drop xs zero sized = sized
sized-drop [] (suc n) sized = tt
sized-drop (x ∷ xs) (suc n) sized = sized-drop xs n sized.2

pub sized_at : (xs : List (List RowData)) (at : ℕ) → AreSized xs → at < length xs → (0 < length (page_at xs at)) × (length (page_at xs at) ≤ 64)
sized_at [] at sized inside = absurd (omega arith)
sized_at (x ∷ xs) zero sized inside = (sized.0, sized.1)
sized_at (x ∷ xs) (suc at) sized inside = sized_at xs at sized.2 (omega arith)

-- ---- parts that aren't empty

pub some_of : (pages : List (List RowData)) → AreSized pages → HoldEach 1 pages
some_of [] sized = tt
some_of (page ∷ pages) sized = (omega (arith, sized.0), some_of pages sized.2)

pub parts_of_pages : (pages : List (List RowData)) → IsPaged pages → AreParts pages
parts_of_pages pages paged = record { some = some_of pages paged.sized; rising = paged.rising }

pub hold_at : (least : ℕ) (parts : List (List RowData)) (at : ℕ) → HoldEach least parts → at < length parts → least ≤ length (page_at parts at)
hold_at least [] at holds inside = absurd (omega arith)
hold_at least (part ∷ parts) zero holds inside = holds.0
hold_at least (part ∷ parts) (suc at) holds inside = hold_at least parts at holds.1 (omega arith)

pub some_at : (parts : List (List RowData)) (at : ℕ) → HoldEach 1 parts → at < length parts → 0 < length (page_at parts at)
some_at parts at some inside = omega (arith, hold_at 1 parts at some inside)

pub hold-append : (least : ℕ) (xs ys : List (List RowData)) → HoldEach least xs → HoldEach least ys → HoldEach least (xs ++ ys)
hold-append least [] ys these those = those
hold-append least (x ∷ xs) ys these those = (these.0, hold-append least xs ys these.1 those)

pub hold-take : (least : ℕ) (xs : List (List RowData)) (n : ℕ) → HoldEach least xs → HoldEach least (take n xs)
hold-take least xs zero holds = tt
hold-take least [] (suc n) holds = tt
hold-take least (x ∷ xs) (suc n) holds = (holds.0, hold-take least xs n holds.1)

pub hold-drop : (least : ℕ) (xs : List (List RowData)) (n : ℕ) → HoldEach least xs → HoldEach least (drop n xs)
hold-drop least xs zero holds = holds
hold-drop least [] (suc n) holds = tt
hold-drop least (x ∷ xs) (suc n) holds = hold-drop least xs n holds.1

-- ---- neighbours

pub full_drop : (xs : List (List RowData)) (n : ℕ) → AreFull xs → AreFull (drop n xs)
full_drop xs zero full = full
full_drop [] (suc n) full = tt
full_drop (x ∷ xs) (suc n) full = full_drop xs n full.1

-- the last of the first n pages holds more than 32 rows with the first of others
abbrev pub Touches : List (List RowData) → ℕ → List (List RowData) → Type 0
Touches pages zero others = Unit {0}
Touches [] (suc n) others = Unit {0}
Touches (page ∷ pages) (suc zero) others = FullWith page others
Touches (page ∷ pages) (suc (suc n)) others = Touches pages (suc n) others

pub full_from : (pages : List (List RowData)) (n : ℕ) (others : List (List RowData)) → n ≤ length pages → AreFull pages → AreFull others → Touches pages n others → AreFull (take n pages ++ others)
full_from pages zero others inside full those touch = those
full_from [] (suc n) others inside full those touch = absurd (omega arith)
full_from (page ∷ pages) (suc zero) others inside full those touch = (touch, those)
full_from (page ∷ []) (suc (suc n)) others inside full those touch = absurd (omega arith)
full_from (page ∷ next ∷ pages) (suc (suc n)) others inside full those touch =
    (full.0, full_from (next ∷ pages) (suc n) others (omega arith) full.1 those touch)

touches_rest : (pages : List (List RowData)) (n : ℕ) → AreFull pages → Touches pages n (drop n pages)
touches_rest pages zero full = tt
touches_rest [] (suc n) full = tt
touches_rest (page ∷ pages) (suc zero) full = full.0
touches_rest (page ∷ pages) (suc (suc n)) full = touches_rest pages (suc n) full.1

pub touches_page : (pages : List (List RowData)) (n : ℕ) → AreFull pages → n < length pages → Touches pages n (page_at pages n ∷ drop (suc n) pages)
touches_page pages n full inside = subst (λ (r : List (List RowData)). Touches pages n r) (drop-cons pages n [] inside) (touches_rest pages n full)

pub full_page : (pages : List (List RowData)) (n : ℕ) → AreFull pages → n < length pages → AreFull (page_at pages n ∷ drop (suc n) pages)
full_page pages n full inside = subst (λ (r : List (List RowData)). AreFull r) (drop-cons pages n [] inside) (full_drop pages n full)

pub full_more : (page more : List RowData) (pages : List (List RowData)) → length page ≤ length more → FullWith page pages → FullWith more pages
full_more page more [] longer full = tt
full_more page more (next ∷ pages) longer full = omega arith

-- any page holds one row at least
pub full_big : (page : List RowData) (pages : List (List RowData)) → 32 ≤ length page → AreSized pages → FullWith page pages
full_big page [] big sized = tt
full_big page (next ∷ pages) big sized = let some : 0 < length next = sized.0 in omega arith

pub touches_more : (pages : List (List RowData)) (n : ℕ) (page more : List RowData) (rest others : List (List RowData)) → length page ≤ length more → Touches pages n (page ∷ rest) → Touches pages n (more ∷ others)
touches_more pages zero page more rest others longer touch = tt
touches_more [] (suc n) page more rest others longer touch = tt
touches_more (first ∷ pages) (suc zero) page more rest others longer touch = omega arith
touches_more (first ∷ pages) (suc (suc n)) page more rest others longer touch = touches_more pages (suc n) page more rest others longer touch

pub touches_big : (pages : List (List RowData)) (n : ℕ) (page : List RowData) (rest : List (List RowData)) → AreSized pages → 32 ≤ length page → Touches pages n (page ∷ rest)
touches_big pages zero page rest sized big = tt
touches_big [] (suc n) page rest sized big = tt
touches_big (first ∷ pages) (suc zero) page rest sized big = let some : 0 < length first = sized.0 in omega arith
touches_big (first ∷ pages) (suc (suc n)) page rest sized big = touches_big pages (suc n) page rest sized.2 big

-- where a page of one row goes, those beside it hold 32 each
pub touches_skip : (pages : List (List RowData)) (n : ℕ) (page : List RowData) (rest : List (List RowData)) → length page ≤ 1 → AreSized rest → Touches pages n (page ∷ rest) → Touches pages n rest
touches_skip pages zero page rest one sized touch = tt
touches_skip [] (suc n) page rest one sized touch = tt
touches_skip (first ∷ pages) (suc zero) page [] one sized touch = tt
touches_skip (first ∷ pages) (suc zero) page (next ∷ rest) one sized touch = let some : 0 < length next = sized.0 in omega arith
touches_skip (first ∷ pages) (suc (suc n)) page rest one sized touch = touches_skip pages (suc n) page rest one sized touch

pub touches_at : (pages : List (List RowData)) (n : ℕ) (others : List (List RowData)) → n < length pages → FullWith (page_at pages n) others → Touches pages (suc n) others
touches_at [] n others inside full = tt
touches_at (page ∷ pages) zero others inside full = full
touches_at (page ∷ pages) (suc n) others inside full = touches_at pages n others (omega arith) full

-- ---- how many pages

pub many_pages : (pages : List (List RowData)) → AreSized pages → length (joined pages) ≤ 64 * length pages
many_pages [] sized = omega arith
many_pages (page ∷ pages) sized =
    omega (arith, sized.1, many_pages pages sized.2, length-append page (joined pages))

-- ---- rising

pub rising_at : (pages : List (List RowData)) (at : ℕ) → AreRising (joined pages) → at < length pages → AreRising (page_at pages at)
rising_at pages at is inside =
    let all : Rising (joined (take at pages) ++ (page_at pages at ++ joined (drop (suc at) pages))) = rising _ (subst (λ (r : List RowData). AreRising r) (joined_at pages at inside) is) in
    let later = rising_parts (joined (take at pages)) (page_at pages at ++ joined (drop (suc at) pages)) all in
    are_rising (page_at pages at) (rising_parts (page_at pages at) (joined (drop (suc at) pages)) later.1).0

-- ---- what an index reads

pub indexed : {X : Type 0} (f : X → List RowData) (xs : List X) (at : ℕ) (x : X) → at < length xs → x ≡ get_or xs at x → page_at (map f xs) at ≡ f x
indexed f xs at x inside is = get_or-map f xs at x [] inside ∙ ap f (sym is)

pub read_before : {X : Type 0} (f : X → List RowData) (xs : List X) (i : ℕ) (z x : X) → i < length xs → x ≡ get_or (insert xs (i + 1) z) i x → page_at (map f xs) i ≡ f x
read_before f xs i z x inside is =
    let on : suc i ≡ i + 1 = omega arith in
    by xs i inside (subst (λ (n : ℕ). x ≡ get_or (insert xs n z) i x) (sym on) is)
  where
    by : (xs : List _) (i : ℕ) → i < length xs → x ≡ get_or (insert xs (suc i) z) i x → page_at (map f xs) i ≡ f x
    by [] i inside is = absurd (omega arith)
    by (y ∷ xs) zero inside is = sym (ap f is)
    by (y ∷ xs) (suc i) inside is = by xs i (omega arith) is

-- a row that was put in, taken out again
pub taken_out : (rows : List RowData) (at : ℕ) (row : RowData) → at ≤ length rows → row_gone (row_put rows at at row) at ≡ rows
taken_out rows at row within =
    let on : suc at ≡ at + 1 = omega arith in
    subst (λ (n : ℕ). take at (row_put rows at at row) ++ drop n (row_put rows at at row) ≡ rows) on (by rows at within)
  where
    by : (rows : List RowData) (at : ℕ) → at ≤ length rows → take at (row_put rows at at row) ++ drop (suc at) (row_put rows at at row) ≡ rows
    by rows zero within = refl
    by [] (suc at) within = absurd (omega arith)
    by (x ∷ rows) (suc at) within = ap (λ (r : List RowData). x ∷ r) (by rows at (omega arith))

-- a page that has no room for a row holds 64, and the row takes no other's place
pub no_room : (page : List RowData) (from to : ℕ) (row : RowData) → from ≤ to → to ≤ length page → length page ≤ 64 → false ≡ not (nat_lt 64 (length (row_put page from to row))) → (64 ≤ length page) × (from ≡ to)
no_room page from to row order within small long =
    let many : 64 < length (row_put page from to row) = grind (arith, nat_tests) in
    let first = length-take from page in
    let rest = length-drop to page in
    let all = length-append (take from page) (row ∷ drop to page) in
    (omega (arith, many, first, rest, all), omega (arith, many, first, rest, all))

pub map_drop : {X Y : Type 0} (f : X → Y) (xs : List X) (n : ℕ) → map f (drop n xs) ≡ drop n (map f xs)
map_drop f xs zero = refl
map_drop f [] (suc n) = refl
map_drop f (x ∷ xs) (suc n) = map_drop f xs n
