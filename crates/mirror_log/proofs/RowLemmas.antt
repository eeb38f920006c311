-- What stands once the revision of the lines that were kept is committed.
use Rattle.std.proofs.Common.{◌≡◌, ℕ, ◌+◌, Bool, true, false, not, List, [], ◌∷◌, map, fold, Option, Some, None, bytes_eq, is_some, Less, Equal, refl, sym, ap, ◌∙◌, subst, inl, inr}
use Rattle.std.specs.Prelude.{◌&&◌, ◌||◌, option_map}
use Rattle.std.specs.List.{AllByRecursion, list_any}
use Rattle.std.specs.List.Sorted.{IsStrictlySortedBy}
use Rattle.std.proofs.lemmas.Bool.{cases_Bool, eq-eqb, eqb-true, false≢true}
use Rattle.std.proofs.lemmas.List.Sorted.{list_any-IsPermutation}
use Rattle.std.proofs.lemmas.Slice.Eq.{bytes_eq-Decides}
use Rattle.std.specs.Cmp.Lexicographic.{slice_cmp}
use Rattle.std.specs.Ordering.{nat_cmp, ordering_then}
use Rattle.kube_meta.specs.declared.objects.Obj.{Obj}
use Rattle.kube_meta.specs.declared.resources.Resource.{Resource}
use Rattle.kube_meta.specs.Resources.{place_of, same_resource}
use Rattle.kube_meta.specs.Rows.{RowData}
use Rattle.rev_log.specs.Changes.{ChangeData, RevisionData, change_cmp}
use Rattle.rev_log.specs.Logs.{Log, end_of, grown}
use Rattle.rev_log.specs.States.{is_change_of, row_after, row_at}
use Rattle.rev_log.proofs.GrowthLemmas.{row_at-pushed}
use Rattle.select_all.proofs.ListingLaws.{before_self}
use Rattle.select_all.proofs.OrderLaws.{same_number}
use Rattle.select_all.specs.declared.selection.Kind.{Kind}
use Rattle.select_all.specs.declared.selection.Kind.TheVariants.{Added, Modified, Deleted}
use Rattle.select_all.specs.Streams.{TransitionData, Standing}
use Rattle.mirror_law.specs.Mirrors.{change_told, IsRevisionTold}
use Rattle.mirror_log.specs.Intakes.{same_kind, fits_kind, is_of, tells}
use Rattle.mirror_log.proofs.KindLemmas.{and_false, or_false, and_true, AllFit}

-- a change writes the object at a key, or removes it
writes : Resource → List ℕ → ChangeData → Bool
writes resource key c = is_change_of resource key c && is_some c.new

removes : Resource → List ℕ → ChangeData → Bool
removes resource key c = is_change_of resource key c && not (is_some c.new)

-- ---- a revision's changes, one of an object at most

both : (a b : Bool) → (a && b) ≡ true → (a ≡ true) × (b ≡ true)
both true true holds = (refl, refl)
both true false holds = cc
both false b holds = cc

not_behind_itself : (resource : Resource) (key : List ℕ) (a c : ChangeData) → is_change_of resource key a ≡ true → is_change_of resource key c ≡ true → change_cmp a c ≡ Less → ⊥
not_behind_itself resource key a c here there less =
    let first = both (same_resource a.resource resource) (bytes_eq a.key key) here in
    let second = both (same_resource c.resource resource) (bytes_eq c.key key) there in
    let places : place_of a.resource ≡ place_of c.resource = eqb-true (place_of a.resource) (place_of resource) first.0 ∙ sym (eqb-true (place_of c.resource) (place_of resource) second.0) in
    let keys : a.key ≡ c.key = (bytes_eq-Decides a.key key).0 first.1 ∙ sym ((bytes_eq-Decides c.key key).0 second.1) in
    let numbers : nat_cmp (place_of a.resource) (place_of c.resource) ≡ Equal = ap (λ n. nat_cmp n (place_of c.resource)) places ∙ same_number (place_of c.resource) in
    let below : slice_cmp nat_cmp a.key c.key ≡ Less = sym (ap (λ o. ordering_then o (slice_cmp nat_cmp a.key c.key)) numbers) ∙ less in
    before_self a.key c.key below keys

apart : (resource : Resource) (key : List ℕ) (a c : ChangeData) → is_change_of resource key a ≡ true → change_cmp a c ≡ Less → is_change_of resource key c ≡ false
apart resource key a c here less = elim (cases_Bool (is_change_of resource key c)) [
  | inl there ↦ absurd (not_behind_itself resource key a c here there less)
  | inr other ↦ other
]

others : (resource : Resource) (key : List ℕ) (a : ChangeData) (changes : List ChangeData) → is_change_of resource key a ≡ true → AllByRecursion (λ c. change_cmp a c ≡ Less) changes →
    AllByRecursion (λ c. is_change_of resource key c ≡ false) changes
others resource key a [] here above = tt
others resource key a (c ∷ changes) here above = (apart resource key a c here above.0, others resource key a changes here above.1)

past : (resource : Resource) (key : List ℕ) (rev : ℕ) (row : Option RowData) (changes : List ChangeData) → AllByRecursion (λ c. is_change_of resource key c ≡ false) changes →
    fold (row_after resource key rev) row changes ≡ row
past resource key rev row [] none = refl
past resource key rev row (c ∷ changes) none = rw none.0 (past resource key rev row changes none.1)

none_of : (resource : Resource) (p : ChangeData → Bool) (key : List ℕ) (changes : List ChangeData) → AllByRecursion (λ c. is_change_of resource key c ≡ false) changes →
    list_any (λ c. is_change_of resource key c && p c) changes ≡ false
none_of resource p key [] none = refl
none_of resource p key (c ∷ changes) none = rw none.0 (none_of resource p key changes none.1)

written : (rev : ℕ) (new : Option Obj) → is_some (option_map (λ obj. let row : RowData = record { obj = obj; rev = rev } in row) new) ≡ is_some new
written rev None = refl
written rev (Some obj) = refl

settled : (stood new : Bool) → new ≡ ((stood || (new || false)) && not (not new || false))
settled true true = refl
settled true false = refl
settled false true = refl
settled false false = refl

-- what stands after them: what stood or is written, and isn't removed
changed : (resource : Resource) (key : List ℕ) (rev : ℕ) (row : Option RowData) (changes : List ChangeData) → IsStrictlySortedBy change_cmp changes →
    is_some (fold (row_after resource key rev) row changes) ≡ ((is_some row || list_any (writes resource key) changes) && not (list_any (removes resource key) changes))
unfolding IsStrictlySortedBy writes removes
changed resource key rev row [] rising = rw (or_false (is_some row), and_true (is_some row)) refl
changed resource key rev row (c ∷ changes) rising = elim (cases_Bool (is_change_of resource key c)) [
  | inl here ↦
      let none = others resource key c changes here rising.0 in
      rw (here, past resource key rev (option_map (λ obj. record { obj = obj; rev = rev }) c.new) changes none, none_of resource (λ c. is_some c.new) key changes none, none_of resource (λ c. not (is_some c.new)) key changes none, written rev c.new)
      (settled (is_some row) (is_some c.new))
  | inr other ↦ rw other (changed resource key rev row changes rising.1)
]

-- ---- of lines

-- a line makes a change of its object
own : (resource : Resource) (key : List ℕ) (t : TransitionData) → is_change_of resource key (change_told resource t) ≡ is_of key t
own resource key t = ap (λ b. b && is_of key t) (eq-eqb (place_of resource) (place_of resource) refl)

-- what a line writes or removes
line_writes : (resource : Resource) (key : List ℕ) (t : TransitionData) → writes resource key (change_told resource t) ≡ (is_of key t && not (same_kind t.kind Deleted))
unfolding writes
line_writes resource key t = ap (λ b. b && is_some (change_told resource t).new) (own resource key t) ∙ one t.kind refl
  where
    one : (kind : Kind) → t.kind ≡ kind → (is_of key t && is_some (change_told resource t).new) ≡ (is_of key t && not (same_kind t.kind Deleted))
    one Added is = rw is refl
    one Modified is = rw is refl
    one Deleted is = rw is refl

line_removes : (resource : Resource) (key : List ℕ) (t : TransitionData) → removes resource key (change_told resource t) ≡ (same_kind t.kind Deleted && is_of key t)
unfolding removes
line_removes resource key t = ap (λ b. b && not (is_some (change_told resource t).new)) (own resource key t) ∙ one t.kind refl
  where
    one : (kind : Kind) → t.kind ≡ kind → (is_of key t && not (is_some (change_told resource t).new)) ≡ (same_kind t.kind Deleted && is_of key t)
    one Added is = rw is (and_false (is_of key t))
    one Modified is = rw is (and_false (is_of key t))
    one Deleted is = rw is (and_true (is_of key t))

removed : (resource : Resource) (key : List ℕ) (lines : List TransitionData) → list_any (removes resource key) (map (change_told resource) lines) ≡ tells Deleted lines key
removed resource key [] = refl
removed resource key (t ∷ lines) = ap (λ b. b || list_any (removes resource key) (map (change_told resource) lines)) (line_removes resource key t) ∙ ap (λ b. (same_kind t.kind Deleted && is_of key t) || b) (removed resource key lines)

-- what stood or is written stood or is added, where each line fits what stood
wrote : (resource : Resource) (rows : Standing) (key : List ℕ) (lines : List TransitionData) → AllFit rows lines →
    (is_some (rows key) || list_any (writes resource key) (map (change_told resource) lines)) ≡ (is_some (rows key) || tells Added lines key)
wrote resource rows key lines fit = elim (cases_Bool (is_some (rows key))) [
  | inl stood ↦ rw stood refl
  | inr absent ↦ rw absent (each lines fit absent)
]
  where
    each : (lines : List TransitionData) → AllFit rows lines → is_some (rows key) ≡ false → list_any (writes resource key) (map (change_told resource) lines) ≡ tells Added lines key
    each [] fit absent = refl
    each (t ∷ lines) fit absent =
        ap (λ b. b || list_any (writes resource key) (map (change_told resource) lines)) (line_writes resource key t ∙ one t.kind refl)
        ∙ ap (λ b. (same_kind t.kind Added && is_of key t) || b) (each lines fit.1 absent)
      where
        one : (kind : Kind) → t.kind ≡ kind → (is_of key t && not (same_kind t.kind Deleted)) ≡ (same_kind t.kind Added && is_of key t)
        one Added is = rw is (and_true (is_of key t))
        one Deleted is = rw is (and_false (is_of key t))
        one Modified is = rw (is, and_true (is_of key t)) (elim (cases_Bool (is_of key t)) [
          | inl here ↦
              let fits : is_some (rows key) ≡ true = subst (λ (k : List ℕ). is_some (rows k) ≡ true) ((bytes_eq-Decides t.obj.key key).0 here) (ap (λ k. fits_kind k (is_some (rows t.obj.key))) (sym is) ∙ fit.0) in
              absurd (false≢true (sym absent ∙ fits))
          | inr other ↦ other
        ])

-- what stands once the revision is committed
pub committed : {resource : Resource} (log : Log) (key : List ℕ) (lines : List TransitionData) (revision : RevisionData) → AllFit (row_at log resource (end_of log)) lines →
    IsRevisionTold resource (end_of log + 1) lines revision →
    is_some (row_at (grown log (revision ∷ [])) resource (end_of log + 1) key) ≡ ((is_some (row_at log resource (end_of log) key) || tells Added lines key) && not (tells Deleted lines key))
committed {resource} log key lines revision fit told =
    let row : Option RowData = row_at log resource (end_of log) key in
    let made : List ChangeData = map (change_told resource) lines in
    ap (λ (r : Option RowData). is_some r) (row_at-pushed log revision resource key)
    ∙ changed resource key revision.rev row revision.changes told.is.rising
    ∙ ap (λ b. (is_some row || b) && not (list_any (removes resource key) revision.changes)) (sym (list_any-IsPermutation (writes resource key) made revision.changes told.changes))
    ∙ ap (λ b. (is_some row || list_any (writes resource key) made) && not b) (sym (list_any-IsPermutation (removes resource key) made revision.changes told.changes))
    ∙ ap (λ b. b && not (list_any (removes resource key) made)) (wrote resource (row_at log resource (end_of log)) key lines fit)
    ∙ ap (λ b. (is_some row || tells Added lines key) && not b) (removed resource key lines)
