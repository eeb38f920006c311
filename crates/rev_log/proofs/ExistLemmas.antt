-- A list of the rows that stand at each key, made change by change.
use Rattle.std.proofs.Common.{◌≡◌, ℕ, zero, suc, Bool, true, false, not, cond, List, [], ◌∷◌, filter, take, fold, Option, Some, None, IfSome, bytes_eq, All, refl, sym, ap, ◌∙◌, subst, inl, inr, Less, Equal, Greater, Ordering, ◌-◌}
use Rattle.std.specs.Cmp.Lexicographic.{slice_cmp}
use Rattle.std.specs.List.{list_all}
use Rattle.std.specs.Ordering.{nat_cmp}
use Rattle.std.specs.FinMap.{nat_cmp-IsAntisymmetric, slice_cmp-IsAntisymmetric}
use Rattle.std.proofs.lemmas.Bool.{cases_Bool, and_parts, true≢false}
use Rattle.std.proofs.lemmas.Cmp.{nat_list_eq_equiv}
use Rattle.std.proofs.lemmas.List.Elements.{All-head, All-tail}
use Rattle.std.proofs.lemmas.Slice.Eq.{bytes_eq-Decides}
use Rattle.kube_meta.specs.declared.resources.Resource.{Resource}
use Rattle.kube_meta.specs.declared.resources.Resource.TheVariants.{Pods, ConfigMaps, Deployments}
use Rattle.kube_meta.specs.declared.objects.Obj.{Obj}
use Rattle.kube_meta.specs.Resources.{same_resource}
use Rattle.kube_meta.specs.Rows.{RowData, key_of, row_with, is_behind}
use Rattle.kube_meta.proofs.RowLemmas.{Rising, are_rising, rising_kept, of_lt, lt_trans, flipped}
use Rattle.rev_log.specs.Changes.{ChangeData, RevisionData, HasItsKey, IsRevision}
use Rattle.rev_log.specs.Laws.{StatesExist}
use Rattle.rev_log.specs.States.{row_after, row_next, row_in_base}

-- ---- the row of a key is put

abbrev put_by : Ordering → RowData → RowData → List RowData → List RowData → List RowData
put_by Less row x xs rest = row ∷ x ∷ xs
put_by Equal row x xs rest = row ∷ xs
put_by Greater row x xs rest = x ∷ rest

abbrev put_row : RowData → List RowData → List RowData
put_row row [] = row ∷ []
put_row row (x ∷ xs) = put_by (slice_cmp nat_cmp (key_of row) (key_of x)) row x xs (put_row row xs)

same_text : (a b : List ℕ) → slice_cmp nat_cmp a b ≡ Equal → a ≡ b
same_text a b tie = slice_cmp-IsAntisymmetric nat_cmp-IsAntisymmetric a b tie

all_put : (key : List ℕ) (row : RowData) (xs : List RowData) → is_behind key row ≡ true → list_all (is_behind key) xs ≡ true → list_all (is_behind key) (put_row row xs) ≡ true
all_put key row [] this those = rw this refl
all_put key row (x ∷ xs) this those =
    let both = and_parts (is_behind key x) (list_all (is_behind key) xs) those in
    by (slice_cmp nat_cmp (key_of row) (key_of x)) both.0 both.1 (all_put key row xs this both.1)
  where
    by : (o : Ordering) → is_behind key x ≡ true → list_all (is_behind key) xs ≡ true → list_all (is_behind key) (put_row row xs) ≡ true → list_all (is_behind key) (put_by o row x xs (put_row row xs)) ≡ true
    by Less first later rest = rw (this, first) later
    by Equal first later rest = rw this later
    by Greater first later rest = rw first rest

later_behind : (a b : List ℕ) (xs : List RowData) → slice_cmp nat_cmp a b ≡ Less → list_all (is_behind b) xs ≡ true → list_all (is_behind a) xs ≡ true
later_behind a b [] less all = refl
later_behind a b (x ∷ xs) less all =
    let both = and_parts (is_behind b x) (list_all (is_behind b) xs) all in
    rw (lt_trans a b (key_of x) (of_lt a b less) both.0) (later_behind a b xs less both.1)

rising_put : (row : RowData) (xs : List RowData) → Rising xs → Rising (put_row row xs)
rising_put row [] is = (refl, tt)
rising_put row (x ∷ xs) is = by (slice_cmp nat_cmp (key_of row) (key_of x)) refl (rising_put row xs is.1)
  where
    by : (o : Ordering) → slice_cmp nat_cmp (key_of row) (key_of x) ≡ o → Rising (put_row row xs) → Rising (put_by o row x xs (put_row row xs))
    by Less e rest = (rw (of_lt (key_of row) (key_of x) e) (later_behind (key_of row) (key_of x) xs e is.0), is)
    by Equal e rest = (subst (λ (k : List ℕ). list_all (is_behind k) xs ≡ true) (sym (same_text (key_of row) (key_of x) e)) is.0, is.1)
    by Greater e rest = (all_put (key_of x) row xs (of_lt (key_of x) (key_of row) (flipped (key_of row) (key_of x) e)) is.0, rest)

-- one text isn't two
two_conds : {A : Type 0} (here this : Bool) (x v w : A) → (here ≡ true → this ≡ true → ⊥) → cond here x (cond this v w) ≡ cond this v (cond here x w)
two_conds true true x v w apart = absurd (apart refl refl)
two_conds true false x v w apart = refl
two_conds false this x v w apart = refl

one_cond : {A : Type 0} (b : Bool) (x y z : A) → cond b x z ≡ cond b x (cond b y z)
one_cond true x y z = refl
one_cond false x y z = refl

apart : (key a b : List ℕ) → slice_cmp nat_cmp a b ≡ Greater → bytes_eq key b ≡ true → bytes_eq key a ≡ true → ⊥
apart key a b greater at_b at_a =
    let same : b ≡ a = sym ((bytes_eq-Decides key b).0 at_b) ∙ (bytes_eq-Decides key a).0 at_a in
    let turned : slice_cmp nat_cmp b a ≡ Less = flipped a b greater in
    let both : slice_cmp nat_cmp a a ≡ Less = subst (λ (t : List ℕ). slice_cmp nat_cmp t a ≡ Less) same turned in
    let other : slice_cmp nat_cmp a a ≡ Greater = subst (λ (t : List ℕ). slice_cmp nat_cmp a t ≡ Greater) same greater in
    let bad : Less ≡ Greater = sym both ∙ other in
    absurd (cc)

row_with_put : (row : RowData) (xs : List RowData) (key : List ℕ) → row_with (put_row row xs) key ≡ cond (bytes_eq key (key_of row)) (Some row) (row_with xs key)
row_with_put row [] key = refl
row_with_put row (x ∷ xs) key = by (slice_cmp nat_cmp (key_of row) (key_of x)) refl (row_with_put row xs key)
  where
    by : (o : Ordering) → slice_cmp nat_cmp (key_of row) (key_of x) ≡ o →
        row_with (put_row row xs) key ≡ cond (bytes_eq key (key_of row)) (Some row) (row_with xs key) →
        row_with (put_by o row x xs (put_row row xs)) key ≡ cond (bytes_eq key (key_of row)) (Some row) (row_with (x ∷ xs) key)
    by Less e rest = refl
    by Equal e rest =
        let same : key_of row ≡ key_of x = same_text (key_of row) (key_of x) e in
        subst (λ (k : List ℕ). cond (bytes_eq key (key_of row)) (Some row) (row_with xs key) ≡ cond (bytes_eq key (key_of row)) (Some row) (cond (bytes_eq key k) (Some x) (row_with xs key)))
        same (one_cond (bytes_eq key (key_of row)) (Some row) (Some x) (row_with xs key))
    by Greater e rest =
        ap (cond (bytes_eq key (key_of x)) (Some x)) rest
        ∙ two_conds (bytes_eq key (key_of x)) (bytes_eq key (key_of row)) (Some x) (Some row) (row_with xs key) (apart key (key_of row) (key_of x) e)

-- ---- the row of a key is removed

abbrev removed : List ℕ → List RowData → List RowData
removed gone rows = filter (λ row. not (bytes_eq gone (key_of row))) rows

other_key : (key gone other : List ℕ) → bytes_eq gone other ≡ true → bytes_eq key other ≡ bytes_eq key gone
other_key key gone other same = ap (bytes_eq key) (sym ((bytes_eq-Decides gone other).0 same))

row_with_removed : (gone : List ℕ) (rows : List RowData) (key : List ℕ) → row_with (removed gone rows) key ≡ cond (bytes_eq key gone) None (row_with rows key)
row_with_removed gone [] key = none (bytes_eq key gone)
  where
    none : (b : Bool) → ◌≡◌ {A = Option RowData} None (cond b None None)
    none true = refl
    none false = refl
row_with_removed gone (x ∷ rows) key = elim (cases_Bool (bytes_eq gone (key_of x))) [
  | inl here ↦
      rw (here, row_with_removed gone rows key, other_key key gone (key_of x) here) (one_cond (bytes_eq key gone) None (Some x) (row_with rows key))
  | inr other ↦
      rw (other, row_with_removed gone rows key)
      (two_conds (bytes_eq key (key_of x)) (bytes_eq key gone) (Some x) None (row_with rows key) (λ at_x at_gone.
      let same : gone ≡ key_of x = sym ((bytes_eq-Decides key gone).0 at_gone) ∙ (bytes_eq-Decides key (key_of x)).0 at_x in
      true≢false (sym ((bytes_eq-Decides gone (key_of x)).1 same) ∙ other)))
]

-- ---- steps

abbrev Standing : Type 0
Standing = List ℕ → Option RowData

-- rows that rise, and stand so
abbrev Lists : Standing → Type 0
Lists stands = (rows : List RowData) × Rising rows × ((key : List ℕ) → row_with rows key ≡ stands key)

lists_same : (f g : Standing) → ((key : List ℕ) → f key ≡ g key) → Lists f → Lists g
lists_same f g same lists = (lists.0, lists.1, λ key. lists.2 key ∙ same key)

changed : (resource : Resource) (rev : ℕ) (stands : Standing) (change : ChangeData) → HasItsKey change → Lists stands → Lists (λ key. row_after resource key rev (stands key) change)
changed resource rev stands change keyed lists = elim (cases_Bool (same_resource change.resource resource)) [
  | inl of ↦ by change.new refl of
  | inr other ↦ lists_same stands (λ key. row_after resource key rev (stands key) change) (λ key. rw other refl) lists
]
  where
    by : (new : Option Obj) → change.new ≡ new → same_resource change.resource resource ≡ true → Lists (λ key. row_after resource key rev (stands key) change)
    by (Some obj) is of =
        let row : RowData = record { obj = obj; rev = rev } in
        let key_is : obj.key ≡ change.key = subst (λ new. IfSome new (λ o. o.key ≡ change.key)) is keyed in (
          put_row row lists.0,
          rising_put row lists.0 lists.1,
          λ key.
              row_with_put row lists.0 key ∙ rw (of, is, nat_list_eq_equiv.symm change.key key, key_is, lists.2 key) refl,
        )
    by None is of = (
      removed change.key lists.0,
      rising_kept (λ row. not (bytes_eq change.key (key_of row))) lists.0 lists.1,
      λ key.
          row_with_removed change.key lists.0 key ∙ rw (of, is, nat_list_eq_equiv.symm change.key key, lists.2 key) refl,
    )

all_changed : (resource : Resource) (rev : ℕ) (changes : List ChangeData) (stands : Standing) → All HasItsKey changes → Lists stands → Lists (λ key. fold (row_after resource key rev) (stands key) changes)
all_changed resource rev [] stands keyed lists = lists
all_changed resource rev (change ∷ changes) stands keyed lists =
    all_changed resource rev changes (λ key. row_after resource key rev (stands key) change) (All-tail HasItsKey change changes keyed)
    (changed resource rev stands change (All-head HasItsKey change changes keyed) lists)

all_revised : (resource : Resource) (revisions : List RevisionData) (n : ℕ) (stands : Standing) → All IsRevision revisions → Lists stands → Lists (λ key. fold (row_next resource key) (stands key) (take n revisions))
all_revised resource revisions zero stands are lists = lists
all_revised resource [] (suc n) stands are lists = lists
all_revised resource (revision ∷ revisions) (suc n) stands are lists =
    let this : IsRevision revision = All-head IsRevision revision revisions are in
    all_revised resource revisions n (λ key. row_next resource key (stands key) revision) (All-tail IsRevision revision revisions are)
    (all_changed resource revision.rev revision.changes stands this.keyed lists)

-- ---- the base

based : (base : List RowData) → Lists (row_with base)
based [] = ([], tt, λ key. refl)
based (row ∷ base) =
    let rest = based base in
    (put_row row rest.0, rising_put row rest.0 rest.1, λ key. row_with_put row rest.0 key ∙ ap (cond (bytes_eq key (key_of row)) (Some row)) (rest.2 key))

in_base : (base : List RowData) (resource : Resource) → Lists (row_in_base base resource)
in_base base Pods = based base
in_base base ConfigMaps = ([], tt, λ key. refl)
in_base base Deployments = ([], tt, λ key. refl)

pub exist : StatesExist
exist log are resource at =
    let lists = all_revised resource log.revisions (at - log.first) (row_in_base log.base resource) are (in_base log.base resource) in
    (lists.0, record { rising = are_rising lists.0 lists.1; exact = lists.2 })
