-- The page that begins with some rows, from the items that hold those of it and from how many are left.
use Rattle.std.proofs.Common.{◌≡◌, ℕ, zero, suc, ◌-◌, ◌<◌, List, [], ◌∷◌, length, map, take, Option, Some, None, refl, ap, sym, ◌∙◌, arith}
use Rattle.std.proofs.lemmas.Bool.{lt-ltb, le-ltb, cond-true, cond-false}
use Rattle.std.proofs.lemmas.List.{take-map, length-map, length-take-le}
use Rattle.std.proofs.lemmas.Option.{slice_get-map}
use Rattle.std.specs.Prelude.{◌↔◌, nat_lt, slice_get, option_map}
use Rattle.kube_meta.specs.Rows.{RowData, key_of}
use Rattle.list_rules.specs.declared.ask.ListAsk.{ListAsk}
use Rattle.list_rules.specs.Pages.{page_of, next_of, left_of, remaining_of}
use Rattle.list_rules.specs.Tokens.{token_text}
use Rattle.client_api.specs.Lists.{IsCut, more_of, more_at}

-- ---- how many are left

pub left_unlimited : (limit : ℕ) (rows : List RowData) → limit ≡ 0 → 0 ≡ left_of limit rows
left_unlimited limit rows none = sym (ap (λ n. left_of n rows) none)

pub left_limited : (limit count : ℕ) (rows : List RowData) → 0 < limit → length rows ≡ count → count - limit ≡ left_of limit rows
left_limited zero count rows some many = absurd (omega (arith, some))
left_limited (suc n) count rows some many = ap (λ m. m - suc n) (sym many)

-- the first rows of all, and how many are left, are the page's
pub cut_off : {A : Type 0} (row_in : A → RowData) (ask : ListAsk) (items kept : List A) (left : ℕ) → ((rows : List RowData) → length rows ≡ length items → left ≡ left_of ask.limit rows) →
    map row_in kept ≡ page_of ask.limit (map row_in items) → IsCut ask (map row_in items) (map row_in kept) left
cut_off row_in ask items kept left counted first =
    let same : left ≡ left_of ask.limit (map row_in items) = counted (map row_in items) (length-map items row_in) in
    record { rows_are = first; none_left = (λ none. sym same ∙ none, λ none. same ∙ none); told = ap (remaining_of ask.selection) same }

-- ---- the next page

next-some : (n : ℕ) (rows : List RowData) (row : RowData) → suc n < length rows → slice_get rows n ≡ Some row → next_of (suc n) rows ≡ Some (key_of row)
next-some n rows row more at =
    cond-true (nat_lt (suc n) (length rows)) (option_map key_of (slice_get rows n)) None (lt-ltb (suc n) (length rows) more)
    ∙ ap (option_map key_of) at

next-none : (limit : ℕ) (rows : List RowData) → left_of limit rows ≡ 0 → next_of limit rows ≡ None
next-none zero rows few = refl
next-none (suc n) rows few = cond-false (nat_lt (suc n) (length rows)) (option_map key_of (slice_get rows n)) None (le-ltb (suc n) (length rows) (omega (arith, few)))

get_take : (n m : ℕ) (rows : List RowData) → m < n → slice_get (take n rows) m ≡ slice_get rows m
get_take zero m rows less = absurd (omega (arith, less))
get_take (suc n) m [] less = refl
get_take (suc n) zero (row ∷ rows) less = refl
get_take (suc n) (suc m) (row ∷ rows) less = get_take n m rows (omega (arith, less))

-- where rows are left, it begins behind the last one of the page
next-kept : (limit : ℕ) (all rows : List RowData) (row : RowData) → 0 < left_of limit all → rows ≡ page_of limit all → slice_get rows (length rows - 1) ≡ Some row → next_of limit all ≡ Some (key_of row)
next-kept zero all rows row more same last = absurd (omega (arith, more))
next-kept (suc n) all rows row more same last =
    let many : length rows ≡ suc n = ap length same ∙ length-take-le (suc n) all (omega (arith, more)) in
    let place : length rows - 1 ≡ n = omega (arith, many) in
    let there : slice_get all n ≡ Some row = sym (get_take (suc n) n all (omega arith)) ∙ sym (ap (λ (l : List RowData). slice_get l n) same) ∙ sym (ap (slice_get rows) place) ∙ last in
    next-some n all row (omega (arith, more)) there

above : (left other : ℕ) → (left ≡ 0) ↔ (other ≡ 0) → 0 < left → 0 < other
above left zero same some = absurd (omega (arith, some, same.1 refl))
above left (suc other) same some = omega arith

pub more_made : {A : Type 0} (row_in : A → RowData) (ask : ListAsk) (rev : ℕ) (all : List RowData) (items : List A) (item : A) (token : List ℕ) (left : ℕ) (told : Option ℕ) → IsCut ask all (map row_in items) left → 0 < left →
    slice_get items (length items - 1) ≡ Some item → token ≡ token_text ask.selection ask.label_text ask.field_text rev (key_of (row_in item)) →
    told ≡ remaining_of ask.selection left → Some (record { token = token; left = told }) ≡ more_of ask rev all
more_made row_in ask rev all items item token left told cut some at token_is told_is =
    let rows = map row_in items in
    let many : length rows ≡ length items = length-map items row_in in
    let last : slice_get rows (length rows - 1) ≡ Some (row_in item) = ap (λ n. slice_get rows (n - 1)) many ∙ slice_get-map row_in items (length items - 1) ∙ ap (option_map row_in) at in
    let next : next_of ask.limit all ≡ Some (key_of (row_in item)) = next-kept ask.limit all rows (row_in item) (above left (left_of ask.limit all) cut.none_left some) cut.rows_are last in
    let lefts : told ≡ remaining_of ask.selection (left_of ask.limit all) = told_is ∙ cut.told in
    ap (λ (z : List ℕ × Option ℕ). Some (record { token = z.0; left = z.1 })) {x = (token, told)} {y = (token_text ask.selection ask.label_text ask.field_text rev (key_of (row_in item)), remaining_of ask.selection (left_of ask.limit all))} (λ i. (token_is i, lefts i))
    ∙ sym (ap (option_map (more_at ask rev (left_of ask.limit all))) next)

-- there is none where no row is left
pub more_none : (ask : ListAsk) (rev : ℕ) (all rows : List RowData) (left : ℕ) → IsCut ask all rows left → left ≡ 0 → None ≡ more_of ask rev all
more_none ask rev all rows left cut none = sym (ap (option_map (more_at ask rev (left_of ask.limit all))) (next-none ask.limit all (cut.none_left.0 none)))

none_first : (limit : ℕ) (all : List RowData) → length (page_of limit all) ≡ 0 → left_of limit all ≡ 0
none_first zero all none = refl
none_first (suc n) [] none = omega arith
none_first (suc n) (row ∷ rows) none = absurd (omega (arith, none))

-- or the page has none
pub more_empty : {A : Type 0} (row_in : A → RowData) (ask : ListAsk) (rev : ℕ) (all : List RowData) (items : List A) (left : ℕ) → IsCut ask all (map row_in items) left → length items ≡ 0 → None ≡ more_of ask rev all
more_empty row_in ask rev all items left cut none =
    let rows_none : length (page_of ask.limit all) ≡ 0 = sym (ap length cut.rows_are) ∙ length-map items row_in ∙ none in
    sym (ap (option_map (more_at ask rev (left_of ask.limit all))) (next-none ask.limit all (none_first ask.limit all rows_none)))

-- ---- the rows of the page

pub page_all : {A : Type 0} (row_in : A → RowData) (limit : ℕ) (items : List A) → limit ≡ 0 → map row_in items ≡ page_of limit (map row_in items)
page_all row_in limit items none = sym (ap (λ n. page_of n (map row_in items)) none)

pub page_some : {A : Type 0} (row_in : A → RowData) (limit : ℕ) (items : List A) → 0 < limit → map row_in (take limit items) ≡ page_of limit (map row_in items)
page_some row_in zero items some = absurd (omega (arith, some))
page_some row_in (suc n) items some = sym (take-map row_in (suc n) items)
