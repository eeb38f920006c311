-- Over rows, the selected ones of them.
use Rattle.std.proofs.Common.{◌≡◌, ℕ, zero, suc, ◌+◌, ◌<◌, true, false, List, [], ◌∷◌, ◌++◌, map, length, take, append_assoc, Option, Some, None, inl, inr, refl, ap, sym, ◌∙◌, subst, arith}
use Rattle.std.specs.Prelude.{◌==◌}
use Rattle.std.specs.List.{list_all}
use Rattle.std.proofs.lemmas.Bool.{cases_Bool, and_parts, eqb-true, true≢false}
use Rattle.std.proofs.lemmas.List.{map-append, length-map, length-append}
use Rattle.std.proofs.Math.Seq.{take-append_seam}
use Rattle.kube_meta.specs.Keys.{is_in}
use Rattle.kube_meta.specs.Rows.{RowData, key_of, within}
use Rattle.kube_meta.specs.Words.{fits}
use Rattle.kube_meta.specs.declared.objects.Obj.{Obj}
use Rattle.kube_meta.specs.declared.words.Mask.{Mask}
use Rattle.obj_tree.specs.Words.{from_fit}
use Rattle.obj_tree.proofs.WordLemmas.{fit_fewer}
use Rattle.select_all.specs.declared.selection.Selection.{Selection}
use Rattle.select_all.specs.Listings.{listing}
use Rattle.select_all.specs.Masks.{IsMaskOf}
use Rattle.select_all.specs.Selecting.{is_within, selects}
use Rattle.list_rules.specs.Pages.{page_of, left_of, is_unrestricted}
use Rattle.cached_client.specs.Walks.{AreWithin}

-- ---- the rows in question

-- the rows of the namespace of a selection hold all that it selects
pub listing_within : (s : Selection) (ns : List ℕ) (rows : List RowData) → s.ns ≡ Some ns → listing s (within ns rows) ≡ listing s rows
listing_within s ns [] some = refl
listing_within s ns (row ∷ rows) some = elim (cases_Bool (is_in ns (key_of row))) [
  | inl inside ↦ elim (cases_Bool (selects s row.obj)) [
    | inl does ↦ rw (inside, does) (ap (λ (l : List RowData). row ∷ l) (listing_within s ns rows some))
    | inr not ↦ rw (inside, not) (listing_within s ns rows some)
  ]
  | inr outside ↦
      let out : selects s row.obj ≡ false = rw (some, outside) refl in
      rw (outside, out) (listing_within s ns rows some)
]

pub within_one : (s : Selection) (ns : List ℕ) (rows : List RowData) → s.ns ≡ Some ns → AreWithin s (within ns rows)
within_one s ns [] some = refl
within_one s ns (row ∷ rows) some = elim (cases_Bool (is_in ns (key_of row))) [
  | inl inside ↦
      let here : is_within s.ns (key_of row) ≡ true = ap (λ (o : Option (List ℕ)). is_within o (key_of row)) some ∙ inside in
      rw (inside, here) (within_one s ns rows some)
  | inr outside ↦ rw outside (within_one s ns rows some)
]

pub within_all : (s : Selection) (rows : List RowData) → s.ns ≡ None → AreWithin s rows
within_all s [] none = refl
within_all s (row ∷ rows) none = rw (ap (λ (o : Option (List ℕ)). is_within o (key_of row)) none) (within_all s rows none)

-- ---- masks

-- what lacks a bit of the mask isn't selected
not_had : (s : Selection) (mask : Mask) (obj : Obj) → IsMaskOf s mask → fits mask obj ≡ false → selects s obj ≡ false
not_had s mask obj is lacks = elim (cases_Bool (selects s obj)) [
  | inl chosen ↦ absurd (true≢false (sym (is obj chosen) ∙ lacks))
  | inr out ↦ out
]

-- of rows from the first one on that fits, those are selected that are selected of all
listing_fit : (s : Selection) (mask : Mask) (rows : List RowData) → IsMaskOf s mask → listing s (from_fit mask rows) ≡ listing s rows
listing_fit s mask [] is = refl
listing_fit s mask (row ∷ rows) is = elim (cases_Bool (fits mask row.obj)) [
  | inl does ↦ rw does refl
  | inr not ↦
      let out : selects s row.obj ≡ false = not_had s mask row.obj is not in
      rw (not, out) (listing_fit s mask rows is)
]

within_fit : (s : Selection) (mask : Mask) (rows : List RowData) → AreWithin s rows → AreWithin s (from_fit mask rows)
within_fit s mask [] are = refl
within_fit s mask (row ∷ rows) are = elim (cases_Bool (fits mask row.obj)) [
  | inl does ↦ rw does are
  | inr not ↦ rw not (within_fit s mask rows (and_parts (is_within s.ns (key_of row)) (list_all (λ row. is_within s.ns (key_of row)) rows) are).1)
]

-- what is next, of rows from the first one on that fits
module _ (s : Selection) (mask : Mask) (before after : List RowData) (row : RowData) (is : IsMaskOf s mask) (next : from_fit mask before ≡ row ∷ after) where
  next_listing : listing s before ≡ listing s (row ∷ after)
  next_listing = sym (listing_fit s mask before is) ∙ ap (listing s) next

  pub next_chosen : selects s row.obj ≡ true → listing s before ≡ row ∷ listing s after
  next_chosen chosen = next_listing ∙ rw chosen refl

  pub next_left_out : selects s row.obj ≡ false → listing s before ≡ listing s after
  next_left_out out = next_listing ∙ rw out refl

  pub next_within : AreWithin s before → AreWithin s after
  next_within are =
      let here : AreWithin s (row ∷ after) = subst (AreWithin s) next (within_fit s mask before are) in
      (and_parts (is_within s.ns (key_of row)) (list_all (λ row. is_within s.ns (key_of row)) after) here).1

  pub next_fewer : length after < length before
  next_fewer = omega (arith, fit_fewer mask before, ap length next)

pub none_next : (s : Selection) (mask : Mask) (before : List RowData) → IsMaskOf s mask → from_fit mask before ≡ [] → listing s before ≡ []
none_next s mask before is none = sym (listing_fit s mask before is) ∙ ap (listing s) none

-- ---- the first ones

-- one more is kept
kept_push : {A : Type 0} (row_in : A → RowData) (kept new : List A) (item : A) (row : RowData) (before after all : List RowData) →
    map row_in kept ++ before ≡ all → before ≡ row ∷ after → row_in item ≡ row → new ≡ kept ++ item ∷ [] → map row_in new ++ after ≡ all
kept_push row_in kept new item row before after all so_far next same pushed =
    ap (λ xs. map row_in xs ++ after) pushed ∙ ap (λ xs. xs ++ after) (map-append row_in kept (item ∷ [])) ∙ append_assoc (map row_in kept) (row_in item ∷ []) after
    ∙ ap (λ (r : RowData). map row_in kept ++ (r ∷ after)) same ∙ ap (λ (l : List RowData). map row_in kept ++ l) (sym next) ∙ so_far

-- as many are kept as the page has
first_full : {A : Type 0} (row_in : A → RowData) (limit : ℕ) (kept : List A) (rest all : List RowData) → map row_in kept ++ rest ≡ all → length kept ≡ limit → 0 < limit →
    (map row_in kept ≡ page_of limit all) × (length rest ≡ left_of limit all)
first_full row_in zero kept rest all joined full some = absurd (omega (arith, some))
first_full row_in (suc n) kept rest all joined full some =
    let many : length (map row_in kept) ≡ suc n = length-map kept row_in ∙ full in
    let taken : take (suc n) all ≡ map row_in kept =
    sym (ap (take (suc n)) joined) ∙ sym (ap (λ k. take k (map row_in kept ++ rest)) many) ∙ take-append_seam (map row_in kept) rest in
    let count : length (map row_in kept) + length rest ≡ length all = sym (length-append (map row_in kept) rest) ∙ ap length joined in
    (sym taken, omega (arith, count, many))

pub first_pushed : {A : Type 0} (row_in : A → RowData) (limit : ℕ) (kept new : List A) (item : A) (row : RowData) (before after all : List RowData) →
    map row_in kept ++ before ≡ all → before ≡ row ∷ after → row_in item ≡ row → new ≡ kept ++ item ∷ [] → length new ≡ limit → (map row_in new ≡ page_of limit all) × (length after ≡ left_of limit all)
first_pushed row_in limit kept new item row before after all so_far next same pushed full =
    let count : length new ≡ length kept + 1 = ap length pushed ∙ length-append kept (item ∷ []) in
    first_full row_in limit new after all (kept_push row_in kept new item row before after all so_far next same pushed) full (omega (arith, count, full))

-- ---- how many are left

-- where neither selector has a requirement, every row of its namespace is selected
listing_all : (s : Selection) (rows : List RowData) → s.labels ≡ [] → s.fields ≡ [] → AreWithin s rows → listing s rows ≡ rows
listing_all s [] labels fields are = refl
listing_all s (row ∷ rows) labels fields are =
    let both = and_parts (is_within s.ns (key_of row)) (list_all (λ row. is_within s.ns (key_of row)) rows) are in
    let here : selects s row.obj ≡ true = rw (both.0, labels, fields) refl in
    rw here (ap (λ (l : List RowData). row ∷ l) (listing_all s rows labels fields both.1))

no_items : {A : Type 0} (xs : List A) → (length xs == 0) ≡ true → xs ≡ []
no_items [] none = refl
no_items (x ∷ xs) none = absurd (omega (arith, eqb-true (length (x ∷ xs)) 0 none))

pub listing_free : (s : Selection) (rows : List RowData) → is_unrestricted s ≡ true → AreWithin s rows → listing s rows ≡ rows
listing_free s rows free are =
    let none = and_parts (length s.labels == 0) (length s.fields == 0) free in
    listing_all s rows (no_items s.labels none.0) (no_items s.fields none.1) are

-- and the rows are counted
pub left_counted : (s : Selection) (rows : List RowData) (count : ℕ) → is_unrestricted s ≡ true → AreWithin s rows → count ≡ length rows → count ≡ length (listing s rows)
left_counted s rows count free are many = many ∙ sym (ap length (listing_free s rows free are))
