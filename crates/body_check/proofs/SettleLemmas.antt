-- A log of one's own goes on by revisions, at the first of which all was told.
use Rattle.std.proofs.Common.{◌≡◌, ℕ, zero, suc, ◌+◌, ◌-◌, ◌^◌, ◌<◌, ◌≤◌, Bool, true, false, List, [], ◌∷◌, ◌++◌, length, map, fold, Option, Some, All, refl, sym, ap, ◌∙◌, subst, append_assoc, inl, inr, arith}
use Rattle.std.specs.List.{AllByRecursion}
use Rattle.std.specs.List.Sorted.{IsStrictlySortedBy, IsPermutation}
use Rattle.std.proofs.lemmas.Bool.{cases_lt, eq-eqb, ne_eqb}
use Rattle.std.proofs.lemmas.List.{append-nil, length-append}
use Rattle.std.proofs.lemmas.List.Elements.{recursion_from_All, All-nil}
use Rattle.std.proofs.lemmas.List.Sorted.{IsPermutation-refl}
use Rattle.std.specs.Prelude.{nat_eq}
use Rattle.kube_meta.specs.declared.objects.Obj.{Obj}
use Rattle.kube_meta.specs.declared.resources.Resource.{Resource}
use Rattle.kube_meta.specs.Rows.{RowData}
use Rattle.rev_log.specs.Changes.{ChangeData, RevisionData}
use Rattle.rev_log.specs.Logs.{Log, grown, end_of}
use Rattle.rev_log.specs.States.{row_at}
use Rattle.rev_log.proofs.GrowthLemmas.{row_at-grown}
use Rattle.select_all.specs.declared.selection.Selection.{Selection}
use Rattle.select_all.specs.Selecting.{selects}
use Rattle.select_all.specs.Listings.{row_told}
use Rattle.select_all.specs.Streams.{Standing, TransitionData, transitions, transition_cmp}
use Rattle.select_all.proofs.EventLaws.{all_weaker}
use Rattle.select_all.proofs.StreamLaws.{transitions_are_joined, transitions_are_kept}
use Rattle.mirror_law.specs.Mirrors.{change_told, of_revision, IsRevisionTold, AreToldBy}
use Rattle.mirror_law.proofs.ListLemmas.{none_kept, all_kept}
use Rattle.mirror_law.proofs.ToldLemmas.{told_revisions_go_on}
use Rattle.body_check.specs.Walks.{IsFitting, FitAtOnce, revision_told, IsOwn, GrowsOn, IsSettled, OwnLogsSettle}
use Rattle.body_check.proofs.OwnLemmas.{is_revision, own_logs_go_on}

-- nothing at all fits
pub none_fit : (test : Obj → Bool) (rows : Standing) (rev : ℕ) → FitAtOnce test rows rev []
unfolding IsStrictlySortedBy
none_fit test rows rev = record { each = All-nil (IsFitting test rows rev); sorted = tt; few = omega arith }

-- the numbers of what fits
pub numbers_of : (test : Obj → Bool) (rows : Standing) (rev : ℕ) (kept : List TransitionData) → FitAtOnce test rows rev kept → AllByRecursion (λ t. t.rev ≡ rev) kept
numbers_of test rows rev kept are = all_weaker (IsFitting test rows rev) (λ t. t.rev ≡ rev) (λ t f. f.number) kept (recursion_from_All (IsFitting test rows rev) kept are.each)

pub all_of : (rev at : ℕ) (kept : List TransitionData) → AllByRecursion (λ t. t.rev ≡ rev) kept → rev ≡ at → of_revision at kept ≡ kept
all_of rev at kept numbers same = all_kept (λ t. nat_eq t.rev at) kept (all_weaker (λ t. t.rev ≡ rev) (λ t. nat_eq t.rev at ≡ true) (λ t number. eq-eqb t.rev at (number ∙ same)) kept numbers)

pub none_of : (rev at : ℕ) (kept : List TransitionData) → AllByRecursion (λ t. t.rev ≡ rev) kept → rev < at → of_revision at kept ≡ []
none_of rev at kept numbers below =
    none_kept (λ t. nat_eq t.rev at) kept (all_weaker (λ t. t.rev ≡ rev) (λ t. nat_eq t.rev at ≡ false)
    (λ t number. ne_eqb t.rev at (λ same. absurd (omega (arith, number, same, below)))) kept numbers)

-- the revision of what fits is that of what was told
told_revision : (resource : Resource) (test : Obj → Bool) (rows : Standing) (rev : ℕ) (told : List TransitionData) → FitAtOnce test rows rev told → IsRevisionTold resource rev told (revision_told resource rev told)
told_revision resource test rows rev told are = record {
  number = refl;
  is = is_revision resource rev test rows told are;
  changes = IsPermutation-refl (map (change_told resource) told);
}

module _ (s : Selection) (from : ℕ) (rows : List RowData) (m : Log) (kept : List TransitionData) (own : IsOwn s from rows m)
    (are : FitAtOnce (selects s) (row_at m s.resource (end_of m)) (end_of m + 1) kept) where
  -- the first of them
  settled_one : end_of m + 1 ≤ 2 ^ 62 → IsSettled s from rows m kept 1 (revision_told s.resource (end_of m + 1) kept ∷ [])
  settled_one within =
      let next : GrowsOn s from rows m kept (grown m (revision_told s.resource (end_of m + 1) kept ∷ [])) = own_logs_go_on s from rows m kept own within are in
      let none : AreToldBy s.resource kept (end_of m) [] = λ i e inside. absurd (cc) in
      let all : of_revision (end_of m + 1) kept ≡ kept = all_of (end_of m + 1) (end_of m + 1) kept (numbers_of (selects s) (row_at m s.resource (end_of m)) (end_of m + 1) kept are) refl in
      let told : IsRevisionTold s.resource (end_of m + 1) (of_revision (end_of m + 1) kept) (revision_told s.resource (end_of m + 1) kept) =
      subst (λ (l : List TransitionData). IsRevisionTold s.resource (end_of m + 1) l (revision_told s.resource (end_of m + 1) kept)) (sym all)
      (told_revision s.resource (selects s) (row_at m s.resource (end_of m)) (end_of m + 1) kept are) in
      record {
        own = next.own;
        count = refl;
        told = told_revisions_go_on s.resource kept (end_of m) [] (revision_told s.resource (end_of m + 1) kept) none
            (subst (λ (n : ℕ). IsRevisionTold s.resource n (of_revision n kept) (revision_told s.resource (end_of m + 1) kept)) (omega arith) told);
        tells = next.tells;
        stands = λ r key above upto. subst (λ (n : ℕ). row_at (grown m (revision_told s.resource (end_of m + 1) kept ∷ [])) s.resource n key ≡ fold (row_told key) (row_at m s.resource (end_of m) key) kept)
            (omega (arith, above, upto)) (next.stands key);
      }

  -- one more, at which nothing was told
  settled_more : (n : ℕ) (more : List RevisionData) → end_of m + suc (suc n) ≤ 2 ^ 62 → IsSettled s from rows m kept (suc n) more
      → IsSettled s from rows m kept (suc (suc n)) (more ++ revision_told s.resource (end_of m + suc n + 1) [] ∷ [])
  settled_more n more within is =
      let there : Log = grown m more in
      let end : end_of (grown m more) ≡ end_of m + suc n = omega (arith, length-append m.revisions more, is.count) in
      let q : RevisionData = revision_told s.resource (end_of m + suc n + 1) [] in
      let fits : FitAtOnce (selects s) (row_at (grown m more) s.resource (end_of (grown m more))) (end_of (grown m more) + 1) [] = none_fit (selects s) (row_at (grown m more) s.resource (end_of (grown m more))) (end_of (grown m more) + 1) in
      let first : GrowsOn s from rows (grown m more) [] (grown (grown m more) (revision_told s.resource (end_of (grown m more) + 1) [] ∷ [])) =
      own_logs_go_on s from rows (grown m more) [] is.own (omega (arith, end, within)) fits in
      let same : grown (grown m more) (revision_told s.resource (end_of (grown m more) + 1) [] ∷ []) ≡ grown m (more ++ revision_told s.resource (end_of m + suc n + 1) [] ∷ []) =
      ap (λ (k : ℕ). grown (grown m more) (revision_told s.resource (k + 1) [] ∷ [])) end
      ∙ ap (λ (xs : List RevisionData). record m { revisions = xs }) (append_assoc m.revisions more (revision_told s.resource (end_of m + suc n + 1) [] ∷ [])) in
      let next : GrowsOn s from rows (grown m more) [] (grown m (more ++ revision_told s.resource (end_of m + suc n + 1) [] ∷ [])) = subst (GrowsOn s from rows (grown m more) []) same first in
      let last : Log = grown m (more ++ revision_told s.resource (end_of m + suc n + 1) [] ∷ []) in
      let of_more : grown (grown m more) (revision_told s.resource (end_of m + suc n + 1) [] ∷ []) ≡ grown m (more ++ revision_told s.resource (end_of m + suc n + 1) [] ∷ []) =
      ap (λ (xs : List RevisionData). record m { revisions = xs }) (append_assoc m.revisions more (revision_told s.resource (end_of m + suc n + 1) [] ∷ [])) in
      let before : transitions last s (end_of m) (end_of m + suc n) ≡ kept =
      ap (λ (l : Log). transitions l s (end_of m) (end_of m + suc n)) (sym of_more)
      ∙ transitions_are_kept (selects s) (grown m more) (revision_told s.resource (end_of m + suc n + 1) [] ∷ []) s.resource (end_of m) (end_of m + suc n) (omega (arith, end))
      ∙ is.tells in
      let quiet : transitions last s (end_of m + suc n) (end_of m + suc n + 1) ≡ [] =
      ap (λ (k : ℕ). transitions last s k (k + 1)) (sym end) ∙ next.tells in
      let number : AllByRecursion (λ t. t.rev ≡ end_of m + 1) kept = numbers_of (selects s) (row_at m s.resource (end_of m)) (end_of m + 1) kept are in
      let none : of_revision (end_of m + suc n + 1) kept ≡ [] = none_of (end_of m + 1) (end_of m + suc n + 1) kept number (omega arith) in
      let told : IsRevisionTold s.resource (end_of m + suc n + 1) (of_revision (end_of m + suc n + 1) kept) q =
      subst (λ (l : List TransitionData). IsRevisionTold s.resource (end_of m + suc n + 1) l q) (sym none)
      (told_revision s.resource (selects s) (row_at m s.resource (end_of m)) (end_of m + suc n + 1) [] (none_fit (selects s) (row_at m s.resource (end_of m)) (end_of m + suc n + 1))) in
      record {
        own = next.own;
        count = omega (arith, length-append more (q ∷ []), is.count);
        told = told_revisions_go_on s.resource kept (end_of m) more q is.told
            (subst (λ (k : ℕ). IsRevisionTold s.resource k (of_revision k kept) q) (omega (arith, is.count)) told);
        tells = ap (λ (k : ℕ). transitions last s (end_of m) k) (omega arith)
            ∙ sym (transitions_are_joined (selects s) last s.resource (end_of m) (end_of m + suc n) (end_of m + suc n + 1) (omega arith) (omega arith))
            ∙ ap (λ (l : List TransitionData). l ++ transitions last s (end_of m + suc n) (end_of m + suc n + 1)) before
            ∙ ap (λ (l : List TransitionData). kept ++ l) quiet
            ∙ append-nil kept;
        stands = λ r key above upto. elim (cases_lt (end_of m + suc n) r) [
          | inl past ↦
              subst (λ (k : ℕ). row_at last s.resource k key ≡ fold (row_told key) (row_at m s.resource (end_of m) key) kept) (omega (arith, past, upto, end))
              (next.stands key ∙ ap (λ (k : ℕ). row_at (grown m more) s.resource k key) end ∙ is.stands (end_of m + suc n) key (omega arith) (omega arith))
          | inr old ↦
              ap (λ (l : Log). row_at l s.resource r key) (sym of_more)
              ∙ row_at-grown (grown m more) (revision_told s.resource (end_of m + suc n + 1) [] ∷ []) s.resource r key (omega (arith, end, old))
              ∙ is.stands r key above old
        ];
      }

  pub settle : (n : ℕ) → end_of m + suc n ≤ 2 ^ 62 → (more : List RevisionData) × IsSettled s from rows m kept (suc n) more
  settle zero within = (revision_told s.resource (end_of m + 1) kept ∷ [], settled_one (omega (arith, within)))
  settle (suc n) within =
      let before = settle n (omega (arith, within)) in
      (before.0 ++ revision_told s.resource (end_of m + suc n + 1) [] ∷ [], settled_more n before.0 within before.1)

pub own_logs_settle : OwnLogsSettle
own_logs_settle s from rows m kept n own within are = settle s from rows m kept own are n within
