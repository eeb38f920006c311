-- The revisions up to a number, and that a state is one list of rows.
use Rattle.std.proofs.Common.{◌≡◌, ℕ, ◌+◌, ◌-◌, suc, true, false, List, [], ◌∷◌, map, take, fold, leb, bytes_eq, Option, Some, None, Less, Equal, Greater, Ordering, refl, sym, ap, ◌∙◌, subst, inl, inr, Result, Ok, Err, IfOk, arith}
use Rattle.std.specs.List.{AllByRecursion}
use Rattle.std.specs.BTreeMap.{BTreeMap, values}
use Rattle.std.specs.Cmp.Lexicographic.{slice_cmp}
use Rattle.std.specs.FinMap.{nat_cmp-IsAntisymmetric, slice_cmp-IsAntisymmetric}
use Rattle.std.specs.Ordering.{nat_cmp, ordering_reverse}
use Rattle.std.proofs.lemmas.Cmp.{nat_list_cmp_total}
use Rattle.std.proofs.lemmas.Bool.{le-leb, lt-leb, cases_lt, cases_Bool, false_from_ne_true}
use Rattle.std.proofs.lemmas.Map.Keys.{sorted_head, sorted_tail}
use Rattle.std.proofs.Math.Seq.{take-nil}
use Rattle.std.proofs.lemmas.Slice.Eq.{bytes_eq-Decides}
use Rattle.kube_meta.specs.declared.resources.Resource.{Resource}
use Rattle.kube_meta.specs.Rows.{RowData, key_of, row_with, AreRising}
use Rattle.rev_log.specs.Changes.{RevisionData}
use Rattle.rev_log.specs.Logs.{AreNumbered}
use Rattle.rev_log.specs.Rows.{Holds, row_next_upto}
use Rattle.rev_log.specs.States.{row_next, row_in_base, IsStateAt, StatesAreUnique}
use Rattle.rev_log.proofs.MapLemmas.{values_rise, row_with-values}

-- the revisions with a number of at most `at` are the first at - first ones
pub fold_upto : (resource : Resource) (at : ℕ) (key : List ℕ) (row : Option RowData) (first : ℕ) (log : List RevisionData) → AreNumbered first log → fold (row_next_upto resource at key) row log ≡ fold (row_next resource key) row (take (at - first) log)
fold_upto resource at key row first [] numbered = rw take-nil refl
fold_upto resource at key row first (x ∷ log) numbered = elim (cases_lt first at) [
  | inl within ↦
      let passes : leb x.rev at ≡ true = le-leb x.rev at (omega (arith, numbered.0)) in
      let one : at - first ≡ suc (at - (first + 1)) = omega arith in
      rw (passes, one) (fold_upto resource at key (row_next resource key row x) (first + 1) log numbered.1)
  | inr past ↦
      let fails : leb x.rev at ≡ false = lt-leb x.rev at (omega (arith, numbered.0)) in
      let none : at - first ≡ 0 = omega arith in
      let none_after : at - (first + 1) ≡ 0 = omega arith in
      rw (fails, none, fold_upto resource at key row (first + 1) log numbered.1, none_after) refl
]

-- a text is not before itself
before_self : (a b : List ℕ) → slice_cmp nat_cmp a b ≡ Less → a ≡ b → ⊥
before_self a b below same =
    let flipped = nat_list_cmp_total.antisymm a b in
    let there : slice_cmp nat_cmp b a ≡ Less = subst (λ (x : List ℕ). slice_cmp nat_cmp x a ≡ Less) same (subst (λ (x : List ℕ). slice_cmp nat_cmp a x ≡ Less) (sym same) below) in
    absurd (cc)

-- no row of a key below all of them
absent : (rows : List RowData) (key : List ℕ) → AllByRecursion (λ k. slice_cmp nat_cmp key k ≡ Less) (map key_of rows) → row_with rows key ≡ None
absent [] key below = refl
absent (row ∷ rows) key below = rw (differs key (key_of row) below.0) (absent rows key below.1)
  where
    differs : (a b : List ℕ) → slice_cmp nat_cmp a b ≡ Less → bytes_eq a b ≡ false
    differs a b less = false_from_ne_true (bytes_eq a b) (λ passes. before_self a b less ((bytes_eq-Decides a b).0 passes))

-- a row stands at its own key
here : (row : RowData) (rows : List RowData) → row_with (row ∷ rows) (key_of row) ≡ Some row
here row rows = rw ((bytes_eq-Decides (key_of row) (key_of row)).1 refl) refl

-- a key below one that is below all is below all
below_all : (a b : List ℕ) (keys : List (List ℕ)) → slice_cmp nat_cmp a b ≡ Less → AllByRecursion (λ k. slice_cmp nat_cmp b k ≡ Less) keys → AllByRecursion (λ k. slice_cmp nat_cmp a k ≡ Less) keys
below_all a b [] less below = tt
below_all a b (k ∷ keys) less below = (nat_list_cmp_total.trans a b k less below.0, below_all a b keys less below.1)

-- a list that begins with a greater key has no row of a lesser one
absent_below : (row : RowData) (rows : List RowData) (key : List ℕ) → AreRising (row ∷ rows) → slice_cmp nat_cmp key (key_of row) ≡ Less → row_with (row ∷ rows) key ≡ None
absent_below row rows key rising less =
    absent (row ∷ rows) key (less, below_all key (key_of row) (map key_of rows) less (sorted_head (slice_cmp nat_cmp) (key_of row) (map key_of rows) rising))

no_row : {row : RowData} → ◌≡◌ {A = Option RowData} None (Some row) → ⊥
no_row e = cc

same_row : {row other : RowData} → Some row ≡ Some other → row ≡ other
same_row e = cc

-- what the rest of two lists with one first row has at a key
rest_same : (row : RowData) (rows others : List RowData) (key : List ℕ) → AreRising (row ∷ rows) → AreRising (row ∷ others) → row_with (row ∷ rows) key ≡ row_with (row ∷ others) key → row_with rows key ≡ row_with others key
rest_same row rows others key rising other_rising same = elim (cases_Bool (bytes_eq key (key_of row))) [
  | inl at ↦
      let key_is : key ≡ key_of row = (bytes_eq-Decides key (key_of row)).0 at in
      rw key_is (absent rows (key_of row) (sorted_head (slice_cmp nat_cmp) (key_of row) (map key_of rows) rising) ∙ sym (absent others (key_of row) (sorted_head (slice_cmp nat_cmp) (key_of row) (map key_of others) other_rising)))
  | inr past ↦ rw past at same
]

unique : (rows others : List RowData) → AreRising rows → AreRising others → ((key : List ℕ) → row_with rows key ≡ row_with others key) → rows ≡ others
unique [] [] rising other_rising same = refl
unique [] (y ∷ others) rising other_rising same = absurd (no_row (same (key_of y) ∙ here y others))
unique (x ∷ rows) [] rising other_rising same = absurd (no_row (sym (same (key_of x)) ∙ here x rows))
unique (x ∷ rows) (y ∷ others) rising other_rising same = by (slice_cmp nat_cmp (key_of x) (key_of y)) refl (unique rows others (sorted_tail (slice_cmp nat_cmp) (key_of x) (map key_of rows) rising) (sorted_tail (slice_cmp nat_cmp) (key_of y) (map key_of others) other_rising))
  where
    by : (o : Ordering) → slice_cmp nat_cmp (key_of x) (key_of y) ≡ o → (((key : List ℕ) → row_with rows key ≡ row_with others key) → rows ≡ others) → x ∷ rows ≡ y ∷ others
    by Less less more = absurd (no_row (sym (absent_below y others (key_of x) other_rising less) ∙ sym (same (key_of x)) ∙ here x rows))
    by Greater greater more =
        let less : slice_cmp nat_cmp (key_of y) (key_of x) ≡ Less = nat_list_cmp_total.antisymm (key_of y) (key_of x) ∙ ap ordering_reverse greater in
        absurd (no_row (sym (absent_below x rows (key_of y) rising less) ∙ same (key_of y) ∙ here y others))
    by Equal tie more =
        let keys : key_of x ≡ key_of y = slice_cmp-IsAntisymmetric nat_cmp-IsAntisymmetric (key_of x) (key_of y) tie in
        let first : x ≡ y = same_row (sym (here x rows) ∙ same (key_of x) ∙ ap (row_with (y ∷ others)) keys ∙ here y others) in
        let rest : rows ≡ others = more (λ key. rest_same x rows others key rising (subst (λ r. AreRising (r ∷ others)) (sym first) other_rising) (subst (λ r. row_with (x ∷ rows) key ≡ row_with (r ∷ others) key) (sym first) (same key))) in
        λ i. first i ∷ rest i

pub are_unique : StatesAreUnique
are_unique log resource at rows others state other_state = unique rows others state.rising other_state.rising (λ key. state.exact key ∙ sym (other_state.exact key))

-- a fact of the value, from another
pub if_ok : {A E : Type 0} (r : Result A E) {P Q : A → Type 0} → ((x : A) → P x → Q x) → IfOk r P → IfOk r Q
if_ok (Ok x) follows fact = follows x fact
if_ok (Err e) follows fact = tt

-- the values of a map that holds what all revisions up to the number leave
pub IsStateAt-values : (m : BTreeMap (List ℕ) RowData) (base : List RowData) (log : List RevisionData) (resource : Resource) (at first : ℕ) (rows : List RowData) → AreNumbered first log → Holds m (λ key. fold (row_next_upto resource at key) (row_in_base base resource key) log) → rows ≡ values m → IsStateAt (record { first = first; base = base; revisions = log }) resource at rows
IsStateAt-values m base log resource at first rows numbered holds are = record {
  rising = rw are (values_rise m (λ key. fold (row_next_upto resource at key) (row_in_base base resource key) log) holds);
  exact = λ key. rw are (row_with-values m (λ key. fold (row_next_upto resource at key) (row_in_base base resource key) log) key holds ∙ fold_upto resource at key (row_in_base base resource key) first log numbered);
}
