-- What is put and removed leads from the one list of rows to the other.
use Rattle.std.proofs.Common.{◌≡◌, ℕ, ◌<◌, ◌≤◌, true, false, not, ltb, List, [], ◌∷◌, ◌++◌, map, Option, Some, None, is_some, bytes_eq, refl, sym, ap, ◌∙◌, subst, inl, inr, Less, arith}
use Rattle.std.specs.Cmp.Lexicographic.{slice_cmp}
use Rattle.std.specs.List.{AllByRecursion, list_any}
use Rattle.std.specs.List.Sorted.{IsStrictlySortedBy}
use Rattle.std.specs.Ordering.{nat_cmp}
use Rattle.std.proofs.lemmas.Bool.{cases_Bool, false_from_ne_true, true≢false, or_parts, or_cases, and_right, ltb-true, ltb-false}
use Rattle.std.proofs.lemmas.Cmp.{nat_list_eq_equiv}
use Rattle.std.proofs.lemmas.List.Elements.{All-from_recursion}
use Rattle.std.proofs.lemmas.List.Folds.{list_any-append}
use Rattle.std.proofs.lemmas.List.Kept.{AllPairs-cons}
use Rattle.std.proofs.lemmas.Slice.Eq.{bytes_eq-Decides}
use Rattle.kube_meta.specs.Resources.{same_resource}
use Rattle.kube_meta.specs.Rows.{RowData, key_of, row_with, AreRising}
use Rattle.kube_meta.proofs.RowLemmas.{rising, are_rising, rising_kept}
use Rattle.kube_meta.specs.declared.resources.Resource.{Resource}
use Rattle.rev_log.specs.Changes.{ChangeData, same_object, AreOfDistinctObjects}
use Rattle.rev_log.specs.Laws.{row_of}
use Rattle.select_all.proofs.ListingLaws.{before_self}
use Rattle.mirror_log.specs.Bridges.{gone, IsKept}
use Rattle.mirror_log.specs.Slots.{puts, put_of, IsRemoval}
use Rattle.mirror_log.proofs.OutcomeLemmas.{is_of, Aims, IsWithin}

pub each : {X : Type 0} (P Q : X → Type 0) → ((x : X) → P x → Q x) → (xs : List X) → AllByRecursion P xs → AllByRecursion Q xs
each P Q follows [] all = tt
each P Q follows (x ∷ xs) all = (follows x all.0, each P Q follows xs all.1)

pub both_parts : {X : Type 0} (P : X → Type 0) (xs ys : List X) → AllByRecursion P xs → AllByRecursion P ys → AllByRecursion P (xs ++ ys)
both_parts P [] ys first second = second
both_parts P (x ∷ xs) ys first second = (first.0, both_parts P xs ys first.1 second)

turn : (a b : List ℕ) → bytes_eq a b ≡ bytes_eq b a
turn a b = nat_list_eq_equiv.symm a b

-- ---- what is gone has no row

gone_missing : (old rows : List RowData) → AllByRecursion (λ row. row_with rows (key_of row) ≡ None) (gone old rows)
gone_missing [] rows = tt
gone_missing (x ∷ old) rows = by (row_with rows (key_of x)) refl (gone_missing old rows)
  where
    by : (o : Option RowData) → row_with rows (key_of x) ≡ o → AllByRecursion (λ row. row_with rows (key_of row) ≡ None) (gone old rows) → AllByRecursion (λ row. row_with rows (key_of row) ≡ None) (gone (x ∷ old) rows)
    by None e rest = rw e (e, rest)
    by (Some y) e rest = rw e rest

to_keys : (rows others : List RowData) → AllByRecursion (λ row. row_with rows (key_of row) ≡ None) others → AllByRecursion (λ k. row_with rows k ≡ None) (map key_of others)
to_keys rows [] all = tt
to_keys rows (x ∷ others) all = (all.0, to_keys rows others all.1)

from_keys : (rows : List RowData) (removed : List ChangeData) → AllByRecursion (λ k. row_with rows k ≡ None) (map (λ c. c.key) removed) → AllByRecursion (λ c. row_with rows c.key ≡ None) removed
from_keys rows [] all = tt
from_keys rows (c ∷ removed) all = (all.0, from_keys rows removed all.1)

pub removed_missing : (old rows : List RowData) (removed : List ChangeData) → map (λ c. c.key) removed ≡ map key_of (gone old rows) → AllByRecursion (λ c. row_with rows c.key ≡ None) removed
removed_missing old rows removed keys = from_keys rows removed (subst (AllByRecursion (λ k. row_with rows k ≡ None)) (sym keys) (to_keys rows (gone old rows) (gone_missing old rows)))

-- ---- no object comes twice

text_apart : (a b : List ℕ) → slice_cmp nat_cmp a b ≡ Less → bytes_eq a b ≡ false
text_apart a b less = false_from_ne_true (bytes_eq a b) (λ same. before_self a b less ((bytes_eq-Decides a b).0 same))

two : (a b : ChangeData) → bytes_eq a.key b.key ≡ false → same_object a b ≡ false
two a b differ = and_right (same_resource a.resource b.resource) (bytes_eq a.key b.key) differ

distinct_keys : (removed : List ChangeData) → IsStrictlySortedBy (slice_cmp nat_cmp) (map (λ c. c.key) removed) → AreOfDistinctObjects removed
unfolding IsStrictlySortedBy
distinct_keys [] sorted = λ i j d less inside. absurd (omega (arith, inside))
distinct_keys (c ∷ removed) sorted =
    AllPairs-cons (λ a b. same_object a b ≡ false) c removed (All-from_recursion (λ b. same_object c b ≡ false) removed (above removed sorted.0)) (distinct_keys removed sorted.1)
  where
    above : (xs : List ChangeData) → AllByRecursion (λ k. slice_cmp nat_cmp c.key k ≡ Less) (map (λ x. x.key) xs) → AllByRecursion (λ b. same_object c b ≡ false) xs
    above [] less = tt
    above (x ∷ xs) less = (two c x (text_apart c.key x.key less.0), above xs less.1)

pub distinct_removed : (old rows : List RowData) (removed : List ChangeData) → AreRising old → map (λ c. c.key) removed ≡ map key_of (gone old rows) → AreOfDistinctObjects removed
distinct_removed old rows removed up keys =
    distinct_keys removed (subst (IsStrictlySortedBy (slice_cmp nat_cmp)) (sym keys) (are_rising (gone old rows) (rising_kept (λ row. not (is_some (row_with rows (key_of row)))) old (rising old up))))

first_missing : (x : RowData) (rows : List RowData) (key : List ℕ) → row_with (x ∷ rows) key ≡ None → (bytes_eq key (key_of x) ≡ false) × (row_with rows key ≡ None)
first_missing x rows key none = elim (cases_Bool (bytes_eq key (key_of x))) [
  | inl is ↦ absurd (there (rw is at none))
  | inr isnt ↦ (isnt, rw isnt at none)
]
  where
    there : ◌≡◌ {A = Option RowData} (Some x) None → ⊥
    there e = cc

above_puts : (resource : Resource) (from : ℕ) (x : RowData) (rows : List RowData) → AllByRecursion (λ k. slice_cmp nat_cmp (key_of x) k ≡ Less) (map key_of rows) → AllByRecursion (λ b. same_object (put_of resource x) b ≡ false) (puts resource from rows)
above_puts resource from x [] less = tt
above_puts resource from x (y ∷ rows) less = elim (cases_Bool (ltb from y.rev)) [
  | inl young ↦ rw young (two (put_of resource x) (put_of resource y) (text_apart (key_of x) (key_of y) less.0), above_puts resource from x rows less.1)
  | inr old ↦ rw old (above_puts resource from x rows less.1)
]

apart_removed : (resource : Resource) (x : RowData) (rows : List RowData) (removed : List ChangeData) → AllByRecursion (λ c. row_with (x ∷ rows) c.key ≡ None) removed → AllByRecursion (λ b. same_object (put_of resource x) b ≡ false) removed
apart_removed resource x rows [] missing = tt
apart_removed resource x rows (c ∷ removed) missing = (two (put_of resource x) c (turn (key_of x) c.key ∙ (first_missing x rows c.key missing.0).0), apart_removed resource x rows removed missing.1)

pub distinct_all : (resource : Resource) (from : ℕ) (rows : List RowData) (removed : List ChangeData) → AreRising rows → AreOfDistinctObjects removed → AllByRecursion (λ c. row_with rows c.key ≡ None) removed → AreOfDistinctObjects (puts resource from rows ++ removed)
unfolding IsStrictlySortedBy
distinct_all resource from [] removed up distinct missing = distinct
distinct_all resource from (x ∷ rows) removed up distinct missing =
    let rest = distinct_all resource from rows removed up.1 distinct (each (λ c. row_with (x ∷ rows) c.key ≡ None) (λ c. row_with rows c.key ≡ None) (λ c none. (first_missing x rows c.key none).1) removed missing) in
    elim (cases_Bool (ltb from x.rev)) [
      | inl young ↦ rw young (AllPairs-cons (λ a b. same_object a b ≡ false) (put_of resource x) (puts resource from rows ++ removed)
          (All-from_recursion (λ b. same_object (put_of resource x) b ≡ false) (puts resource from rows ++ removed)
          (both_parts (λ b. same_object (put_of resource x) b ≡ false) (puts resource from rows) removed (above_puts resource from x rows up.0) (apart_removed resource x rows removed missing))) rest)
      | inr old ↦ rw old rest
    ]

-- ---- each change aims at what stands then

module _ (resource : Resource) (key : List ℕ) (rows : List RowData) where
  aim_put : (x : RowData) → row_with rows (key_of x) ≡ Some x → Aims resource key (row_with rows key) (put_of resource x)
  aim_put x at = record { alone = refl; leaves = λ is. sym at ∙ ap (row_with rows) ((bytes_eq-Decides (key_of x) key).0 is) }

  pub aim_puts : (from : ℕ) (others : List RowData) → AllByRecursion (λ row. row_with rows (key_of row) ≡ Some row) others → AllByRecursion (Aims resource key (row_with rows key)) (puts resource from others)
  aim_puts from [] at = tt
  aim_puts from (x ∷ others) at = elim (cases_Bool (ltb from x.rev)) [
    | inl young ↦ rw young (aim_put x at.0, aim_puts from others at.1)
    | inr old ↦ rw old (aim_puts from others at.1)
  ]

  pub aim_removed : (from n : ℕ) (removed : List ChangeData) → AllByRecursion (IsRemoval resource from n) removed → AllByRecursion (λ c. row_with rows c.key ≡ None) removed → AllByRecursion (Aims resource key (row_with rows key)) removed
  aim_removed from n [] removals missing = tt
  aim_removed from n (c ∷ removed) removals missing = (
    record {
      alone = removals.0.alone;
      leaves = λ is. leaves_none c removals.0.none ∙ sym (missing.0) ∙ ap (row_with rows) ((bytes_eq-Decides c.key key).0 is);
    },
    aim_removed from n removed removals.1 missing.1,
  )
    where
      leaves_none : (x : ChangeData) → x.new ≡ None → row_of x ≡ None
      leaves_none x none = rw none refl

-- ---- what isn't changed stands as it stood

same_some : {x y : RowData} → Some x ≡ Some y → x ≡ y
same_some e = cc

kept_row : (resource : Resource) (from : ℕ) (old : List RowData) (key : List ℕ) (row : RowData) (others : List RowData) → AllByRecursion (λ x. x.rev ≤ from → IsKept old x) others → list_any (is_of key) (puts resource from others) ≡ false
    → row_with others key ≡ Some row → row_with old key ≡ Some row
kept_row resource from old key row [] kept none at = absurd (nothing at)
  where
    nothing : ◌≡◌ {A = Option RowData} None (Some row) → ⊥
    nothing e = cc
kept_row resource from old key row (x ∷ others) kept none at = elim (cases_Bool (ltb from x.rev)) [
  | inl young ↦
      let two_parts : (is_of key (put_of resource x) ≡ false) × (list_any (is_of key) (puts resource from others) ≡ false) = or_parts (is_of key (put_of resource x)) (list_any (is_of key) (puts resource from others)) (rw young at none) in
      let isnt : bytes_eq key (key_of x) ≡ false = turn key (key_of x) ∙ two_parts.0 in
      kept_row resource from old key row others kept.1 two_parts.1 (rw isnt at at)
  | inr older ↦ elim (cases_Bool (bytes_eq key (key_of x))) [
    | inl is ↦
        let same : x ≡ row = same_some (rw is at at) in
        let stands : row_with old (key_of x) ≡ Some x = kept.0 (ltb-false from x.rev older) in
        ap (row_with old) ((bytes_eq-Decides key (key_of x)).0 is) ∙ stands ∙ ap Some same
    | inr isnt ↦ kept_row resource from old key row others kept.1 (rw older at none) (rw isnt at at)
  ]
]

any_keys : (key : List ℕ) (removed : List ChangeData) → list_any (λ k. bytes_eq k key) (map (λ c. c.key) removed) ≡ list_any (is_of key) removed
any_keys key [] = refl
any_keys key (c ∷ removed) = rw (any_keys key removed) refl

gone_row : (rows : List RowData) (key : List ℕ) (old : List RowData) → list_any (λ k. bytes_eq k key) (map key_of (gone old rows)) ≡ false → row_with rows key ≡ None → row_with old key ≡ None
gone_row rows key [] lacks none = refl
gone_row rows key (x ∷ old) lacks none = elim (cases_Bool (bytes_eq key (key_of x))) [
  | inl is ↦
      let missing : row_with rows (key_of x) ≡ None = ap (row_with rows) (sym ((bytes_eq-Decides key (key_of x)).0 is)) ∙ none in
      let back : bytes_eq (key_of x) key ≡ true = turn (key_of x) key ∙ is in
      let some : list_any (λ k. bytes_eq k key) (map key_of (gone (x ∷ old) rows)) ≡ true = rw (missing, back) refl in
      absurd (true≢false (sym some ∙ lacks))
  | inr isnt ↦ rw isnt (gone_row rows key old (rest lacks) none)
]
  where
    rest : list_any (λ k. bytes_eq k key) (map key_of (gone (x ∷ old) rows)) ≡ false → list_any (λ k. bytes_eq k key) (map key_of (gone old rows)) ≡ false
    rest h = by (row_with rows (key_of x)) refl
      where
        by : (o : Option RowData) → row_with rows (key_of x) ≡ o → list_any (λ k. bytes_eq k key) (map key_of (gone old rows)) ≡ false
        by None e = (or_parts (bytes_eq (key_of x) key) (list_any (λ k. bytes_eq k key) (map key_of (gone old rows))) (rw e at h)).1
        by (Some y) e = rw e at h

pub unchanged : (resource : Resource) (from : ℕ) (old rows : List RowData) (removed : List ChangeData) (key : List ℕ) → AllByRecursion (λ x. x.rev ≤ from → IsKept old x) rows → map (λ c. c.key) removed ≡ map key_of (gone old rows)
    → list_any (is_of key) (puts resource from rows ++ removed) ≡ false → row_with old key ≡ row_with rows key
unchanged resource from old rows removed key kept keys lacks = by (row_with rows key) refl
  where
    parts : (list_any (is_of key) (puts resource from rows) ≡ false) × (list_any (is_of key) removed ≡ false)
    parts = or_parts (list_any (is_of key) (puts resource from rows)) (list_any (is_of key) removed) (sym (list_any-append (is_of key) (puts resource from rows) removed) ∙ lacks)

    by : (o : Option RowData) → row_with rows key ≡ o → row_with old key ≡ o
    by None e = gone_row rows key old (ap (list_any (λ k. bytes_eq k key)) (sym keys) ∙ any_keys key removed ∙ parts.1) e
    by (Some row) e = kept_row resource from old key row rows kept parts.0 e

-- ---- all changes are of the revisions between

pub put_bounds : (resource : Resource) (from to : ℕ) (rows : List RowData) → AllByRecursion (λ row. row.rev ≤ to) rows → AllByRecursion (λ c. (from < c.rev) × (c.rev ≤ to)) (puts resource from rows)
put_bounds resource from to [] within = tt
put_bounds resource from to (x ∷ rows) within = elim (cases_Bool (ltb from x.rev)) [
  | inl young ↦ rw young ((ltb-true from x.rev young, within.0), put_bounds resource from to rows within.1)
  | inr old ↦ rw old (put_bounds resource from to rows within.1)
]

pub some_within : (key : List ℕ) (low high : ℕ) (given : List ChangeData) → AllByRecursion (λ c. (low < c.rev) × (c.rev ≤ high)) given → list_any (is_of key) given ≡ true → IsWithin key low high given
some_within key low high [] bounds some = absurd (true≢false (sym some))
some_within key low high (c ∷ given) bounds some = elim (or_cases (is_of key c) (list_any (is_of key) given) some) [
  | inl is ↦ inl (is, bounds.0.0, bounds.0.1)
  | inr there ↦ inr (some_within key low high given bounds.1 there)
]
