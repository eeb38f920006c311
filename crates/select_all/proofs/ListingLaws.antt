-- Listings: that there is one, that it stays, and what it is key by key.
use Rattle.std.proofs.Common.{◌≡◌, ℕ, Bool, true, false, List, [], ◌∷◌, map, None, bytes_eq, Less, refl, sym, ap, ◌∙◌, subst, inl, inr}
use Rattle.std.specs.Prelude.{filter}
use Rattle.std.specs.List.{AllByRecursion}
use Rattle.std.specs.List.Sorted.{IsStrictlySortedBy}
use Rattle.std.specs.Cmp.Lexicographic.{slice_cmp}
use Rattle.std.specs.Ordering.{nat_cmp}
use Rattle.std.proofs.lemmas.Bool.{cases_Bool, false_from_ne_true}
use Rattle.std.proofs.lemmas.Cmp.{nat_list_cmp_total}
use Rattle.std.proofs.lemmas.Map.Keys.{sorted_head, sorted_tail}
use Rattle.std.proofs.lemmas.Slice.Eq.{bytes_eq-Decides}
use Rattle.kube_meta.specs.declared.objects.Obj.{Obj}
use Rattle.kube_meta.specs.declared.resources.Resource.{Resource}
use Rattle.kube_meta.specs.declared.resources.Resource.TheVariants.{Pods}
use Rattle.kube_meta.specs.Rows.{RowData, key_of, row_with, AreRising}
use Rattle.rev_log.specs.Logs.{Log}
use Rattle.rev_log.specs.States.{IsStateAt}
use Rattle.rev_log.proofs.GrowthLemmas.{IsStateAt-grown}
use Rattle.rev_log.proofs.StateLemmas.{are_unique}
use Rattle.rev_log.proofs.ExistLemmas.{exist}
use Rattle.select_all.specs.Listings.{listing_by, shown_by, IsListingBy, IsListingByKey}
use Rattle.select_all.specs.ListingLaws.{ListingsAreUnique, ListingsStay, ListingsByKey}

pub listings_are_one : ListingsAreUnique
listings_are_one test log resource at rows others these those =
    these.selected ∙ ap (listing_by test) (are_unique log resource at these.state those.state these.is_state those.is_state) ∙ sym those.selected

pub listings_are_kept : ListingsStay
listings_are_kept test log more resource at rows within is = record {
  state = is.state;
  is_state = IsStateAt-grown log more resource at is.state within is.is_state;
  selected = is.selected;
}

-- ---- a filter keeps order

module _ (test : RowData → Bool) where
  kept_above : (row : RowData) (rows : List RowData) → AllByRecursion (λ k. slice_cmp nat_cmp (key_of row) k ≡ Less) (map key_of rows) → AllByRecursion (λ k. slice_cmp nat_cmp (key_of row) k ≡ Less) (map key_of (filter test rows))
  kept_above row [] above = tt
  kept_above row (x ∷ rows) above = elim (cases_Bool (test x)) [
    | inl passes ↦ rw passes (above.0, kept_above row rows above.1)
    | inr fails ↦ rw fails (kept_above row rows above.1)
  ]

  pub rising_kept : (rows : List RowData) → AreRising rows → AreRising (filter test rows)
  unfolding IsStrictlySortedBy
  rising_kept [] rising = tt
  rising_kept (x ∷ rows) rising = elim (cases_Bool (test x)) [
    | inl passes ↦ rw passes (kept_above x rows rising.0, rising_kept rows rising.1)
    | inr fails ↦ rw fails (rising_kept rows rising.1)
  ]

-- ---- and what stands at each key

-- a text is not before itself
pub before_self : (a b : List ℕ) → slice_cmp nat_cmp a b ≡ Less → a ≡ b → ⊥
before_self a b below same =
    let flipped = nat_list_cmp_total.antisymm a b in
    let there : slice_cmp nat_cmp b a ≡ Less = subst (λ (x : List ℕ). slice_cmp nat_cmp x a ≡ Less) same (subst (λ (x : List ℕ). slice_cmp nat_cmp a x ≡ Less) (sym same) below) in
    absurd (cc)

-- no row above a key has it
absent : (rows : List RowData) (key : List ℕ) → AllByRecursion (λ k. slice_cmp nat_cmp key k ≡ Less) (map key_of rows) → row_with rows key ≡ None
absent [] key above = refl
absent (row ∷ rows) key above = rw (differs key (key_of row) above.0) (absent rows key above.1)
  where
    differs : (a b : List ℕ) → slice_cmp nat_cmp a b ≡ Less → bytes_eq a b ≡ false
    differs a b less = false_from_ne_true (bytes_eq a b) (λ passes. before_self a b less ((bytes_eq-Decides a b).0 passes))

module _ (test : Obj → Bool) where
  -- the first row of a filtered list, and those behind it
  first_shown : (key : List ℕ) (x : RowData) (rows : List RowData) → AreRising (x ∷ rows) → bytes_eq key (key_of x) ≡ true → row_with rows key ≡ None
  first_shown key x rows rising here =
      let key_is : key ≡ key_of x = (bytes_eq-Decides key (key_of x)).0 here in
      ap (row_with rows) key_is ∙ absent rows (key_of x) (sorted_head (slice_cmp nat_cmp) (key_of x) (map key_of rows) rising)

  shown_first : (key : List ℕ) (x : RowData) (rows : List RowData) (passes here : Bool) → test x.obj ≡ passes → bytes_eq key (key_of x) ≡ here → AreRising (x ∷ rows)
      → row_with (listing_by test rows) key ≡ shown_by test (row_with rows key) → row_with (listing_by test (x ∷ rows)) key ≡ shown_by test (row_with (x ∷ rows) key)
  shown_first key x rows true true p h rising rest = rw (p, h, p) refl
  shown_first key x rows true false p h rising rest = rw (p, h) rest
  shown_first key x rows false true p h rising rest = rw (p, h, p) (rest ∙ ap (shown_by test) (first_shown key x rows rising h))
  shown_first key x rows false false p h rising rest = rw (p, h) rest

  pub row_with-listing : (rows : List RowData) (key : List ℕ) → AreRising rows → row_with (listing_by test rows) key ≡ shown_by test (row_with rows key)
  row_with-listing [] key rising = refl
  row_with-listing (x ∷ rows) key rising =
      shown_first key x rows (test x.obj) (bytes_eq key (key_of x)) refl refl rising (row_with-listing rows key (sorted_tail (slice_cmp nat_cmp) (key_of x) (map key_of rows) rising))

-- lists in order that have the same row at each key
rows_are_one : (rows others : List RowData) → AreRising rows → AreRising others → ((key : List ℕ) → row_with rows key ≡ row_with others key) → rows ≡ others
rows_are_one rows others rising other_rising same =
    are_unique (record { first = 0; base = others; revisions = [] }) Pods 0 rows others (record { rising = rising; exact = same }) (record { rising = other_rising; exact = λ key. refl })

-- a listing has at each key what stands there, if that passes
pub listing_by_key : (test : Obj → Bool) (log : Log) (resource : Resource) (at : ℕ) (rows : List RowData) → IsListingBy test log resource at rows → IsListingByKey test log resource at rows
listing_by_key test log resource at rows is = record {
  rising = subst AreRising (sym is.selected) (rising_kept (λ row. test row.obj) is.state is.is_state.rising);
  exact = λ key. ap (λ (list : List RowData). row_with list key) is.selected ∙ row_with-listing test is.state key is.is_state.rising ∙ ap (shown_by test) (is.is_state.exact key);
}

-- and where there is a state, what has that is a listing
pub listing_from_keys : (test : Obj → Bool) (log : Log) (resource : Resource) (at : ℕ) (state rows : List RowData) → IsStateAt log resource at state → IsListingByKey test log resource at rows → IsListingBy test log resource at rows
listing_from_keys test log resource at state rows is_state is = record {
  state = state;
  is_state = is_state;
  selected = rows_are_one rows (listing_by test state) is.rising (rising_kept (λ row. test row.obj) state is_state.rising)
      (λ key. is.exact key ∙ sym (row_with-listing test state key is_state.rising ∙ ap (shown_by test) (is_state.exact key)));
}

pub listings_are_by_key : ListingsByKey
listings_are_by_key test log resource at rows all = (
  listing_by_key test log resource at rows,
  λ is. let found = exist log all resource at in listing_from_keys test log resource at found.0 rows found.1 is,
)
