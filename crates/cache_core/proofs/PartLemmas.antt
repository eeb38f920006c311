-- The part of a revision that is of one resource tells all that the revision is to it.
use Rattle.std.proofs.Common.{◌≡◌, ℕ, ◌<◌, ◌≤◌, Bool, List, [], ◌∷◌, ◌++◌, length, filter_map, fold, map, Option, Some, None, IsTrue, refl, sym, ap, ◌∙◌, inl, inr, subst, arith}
use Rattle.std.specs.Prelude.{All}
use Rattle.std.specs.List.{cons_option, AllByRecursion}
use Rattle.std.proofs.lemmas.Bool.{cases_Bool}
use Rattle.std.proofs.lemmas.List.Elements.{All-filter, All-cons, All-nil}
use Rattle.std.proofs.lemmas.List.Kept.{IsStrictlySortedBy-filter}
use Rattle.std.proofs.lemmas.List.Sums.{length-filter, count_by-le-length}
use Rattle.kube_meta.specs.declared.resources.Resource.{Resource}
use Rattle.kube_meta.specs.Resources.{same_resource}
use Rattle.kube_meta.specs.Rows.{RowData, row_with}
use Rattle.rev_log.specs.Changes.{ChangeData, RevisionData, HasItsKey, change_cmp, IsRevision}
use Rattle.rev_log.specs.States.{row_after, row_next}
use Rattle.select_all.specs.Streams.{EventData, Standing, event_of, events_from}
use Rattle.event_ring.proofs.FilterLemmas.{filter-yes, filter-no}
use Rattle.up_api.specs.Feeds.{changes_of, unless_empty, part_of}
use Rattle.cache_core.specs.Caches.{held_event}
use Rattle.cache_core.specs.Steps.{change_event}

-- ---- one revision

-- the changes of other resources leave the row
pub after_part : (resource : Resource) (key : List ℕ) (rev : ℕ) (changes : List ChangeData) (row : Option RowData) →
    fold (row_after resource key rev) row changes ≡ fold (row_after resource key rev) row (changes_of resource changes)
after_part resource key rev [] row = refl
after_part resource key rev (c ∷ changes) row = elim (cases_Bool (same_resource c.resource resource)) [
  | inl here ↦
      after_part resource key rev changes (row_after resource key rev row c)
      ∙ ap (fold (row_after resource key rev) row) (sym (filter-yes (λ change. same_resource change.resource resource) c changes here))
  | inr elsewhere ↦
      let skip : row_after resource key rev row c ≡ row = rw elsewhere refl in
      ap (λ (r : Option RowData). fold (row_after resource key rev) r changes) skip
      ∙ after_part resource key rev changes row
      ∙ ap (fold (row_after resource key rev) row) (sym (filter-no (λ change. same_resource change.resource resource) c changes elsewhere))
]

-- and have no events
pub events_of_part : (resource : Resource) (stands : Standing) (rows : List RowData) (rev : ℕ) (changes : List ChangeData) →
    ((key : List ℕ) → row_with rows key ≡ stands key) →
    map held_event (filter_map (event_of resource stands rev) changes) ≡ map (change_event rows rev) (changes_of resource changes)
events_of_part resource stands rows rev [] same = refl
events_of_part resource stands rows rev (c ∷ changes) same = elim (cases_Bool (same_resource c.resource resource)) [
  | inl here ↦ rw (here, sym (same c.key)) (ap (λ rest. change_event rows rev c ∷ rest) (events_of_part resource stands rows rev changes same))
  | inr elsewhere ↦ rw elsewhere (events_of_part resource stands rows rev changes same)
]

-- the part of a revision, where there is one
pub record IsPartOf (resource : Resource) (whole part : RevisionData) : Type 0 where
  pub rev : part.rev ≡ whole.rev
  pub changes : part.changes ≡ changes_of resource whole.changes
  pub some : 0 < length part.changes

pub part_is : (resource : Resource) (whole part : RevisionData) → part_of resource whole ≡ Some part → IsPartOf resource whole part
part_is resource whole part found = by (changes_of resource whole.changes) refl found
  where
    by : (changes : List ChangeData) → changes_of resource whole.changes ≡ changes → unless_empty whole.rev changes ≡ Some part → IsPartOf resource whole part
    by [] e found = absurd (cc)
    by (c ∷ changes) e found =
        let same : record { rev = whole.rev; changes = c ∷ changes } ≡ part = cc in
        record {
          rev = ap (λ r. r.rev) (sym same);
          changes = ap (λ r. r.changes) (sym same) ∙ sym e;
          some = subst (λ (r : RevisionData). 0 < length r.changes) same (omega arith);
        }

pub no_part : (resource : Resource) (whole : RevisionData) → part_of resource whole ≡ None → changes_of resource whole.changes ≡ []
no_part resource whole none = by (changes_of resource whole.changes) none
  where
    by : (changes : List ChangeData) → unless_empty whole.rev changes ≡ None → changes ≡ []
    by [] e = refl
    by (c ∷ changes) e = absurd (cc)

all_of : (resource : Resource) (changes : List ChangeData) → All (λ change. IsTrue (same_resource change.resource resource)) (changes_of resource changes)
all_of resource [] = All-nil (λ change. IsTrue (same_resource change.resource resource))
all_of resource (c ∷ changes) = elim (cases_Bool (same_resource c.resource resource)) [
  | inl here ↦ subst (All (λ change. IsTrue (same_resource change.resource resource))) (sym (filter-yes (λ change. same_resource change.resource resource) c changes here))
      (All-cons (λ change. IsTrue (same_resource change.resource resource)) c (changes_of resource changes) here (all_of resource changes))
  | inr elsewhere ↦ subst (All (λ change. IsTrue (same_resource change.resource resource))) (sym (filter-no (λ change. same_resource change.resource resource) c changes elsewhere)) (all_of resource changes)
]

pub part_all : (resource : Resource) (whole part : RevisionData) → IsPartOf resource whole part → All (λ change. IsTrue (same_resource change.resource resource)) part.changes
part_all resource whole part is = subst (λ changes. All (λ change. IsTrue (same_resource change.resource resource)) changes) (sym is.changes) (all_of resource whole.changes)

-- some changes of a revision, in their order, are a revision
pub part_revision : (resource : Resource) (whole part : RevisionData) → IsRevision whole → IsPartOf resource whole part → IsRevision part
part_revision resource whole part is of =
    let p : ChangeData → Bool = λ change. same_resource change.resource resource in
    record {
      few = subst (λ changes. length changes ≤ 64) (sym of.changes) (omega (arith, is.few, length-filter p whole.changes, count_by-le-length p whole.changes));
      rising = subst (λ changes. Rattle.std.specs.List.Sorted.IsStrictlySortedBy change_cmp changes) (sym of.changes) (IsStrictlySortedBy-filter change_cmp p whole.changes is.rising);
      numbered = subst (λ (z : ℕ × List ChangeData). All (λ change. change.rev ≡ z.0) z.1) {x = (whole.rev, changes_of resource whole.changes)} {y = (part.rev, part.changes)} (λ i. (sym of.rev i, sym of.changes i)) (All-filter p (λ change. change.rev ≡ whole.rev) whole.changes is.numbered);
      keyed = subst (All HasItsKey) (sym of.changes) (All-filter p HasItsKey whole.changes is.keyed);
    }

-- ---- revisions without a part

pub record AreQuiet (resource : Resource) (revisions : List RevisionData) : Type 0 where
  pub rows : (key : List ℕ) (row : Option RowData) → fold (row_next resource key) row revisions ≡ row
  pub events : (stands : Standing) → events_from resource stands revisions ≡ []

pub quiet : (resource : Resource) (revisions : List RevisionData) → filter_map (part_of resource) revisions ≡ [] → AreQuiet resource revisions
quiet resource revisions none = record { rows = quiet_rows revisions none; events = quiet_events revisions none }
  where
    of : (x : RevisionData) (xs : List RevisionData) (o : Option RevisionData) → part_of resource x ≡ o → cons_option o (filter_map (part_of resource) xs) ≡ [] → (part_of resource x ≡ None) × (filter_map (part_of resource) xs ≡ [])
    of x xs None is none = (is, none)
    of x xs (Some part) is none = absurd (cc)

    both : (x : RevisionData) (xs : List RevisionData) → filter_map (part_of resource) (x ∷ xs) ≡ [] → (changes_of resource x.changes ≡ []) × (filter_map (part_of resource) xs ≡ [])
    both x xs none = let h = of x xs (part_of resource x) refl none in (no_part resource x h.0, h.1)

    next_same : (x : RevisionData) → changes_of resource x.changes ≡ [] → (key : List ℕ) (row : Option RowData) → row_next resource key row x ≡ row
    next_same x none key row = after_part resource key x.rev x.changes row ∙ ap (fold (row_after resource key x.rev) row) none

    quiet_rows : (revisions : List RevisionData) → filter_map (part_of resource) revisions ≡ [] → (key : List ℕ) (row : Option RowData) → fold (row_next resource key) row revisions ≡ row
    quiet_rows [] none key row = refl
    quiet_rows (x ∷ xs) none key row =
        let h = both x xs none in
        ap (λ (r : Option RowData). fold (row_next resource key) r xs) (next_same x h.0 key row) ∙ quiet_rows xs h.1 key row

    no_events_in : (stands : Standing) (rev : ℕ) (changes : List ChangeData) → changes_of resource changes ≡ [] → filter_map (event_of resource stands rev) changes ≡ []
    no_events_in stands rev [] none = refl
    no_events_in stands rev (c ∷ changes) none = elim (cases_Bool (same_resource c.resource resource)) [
      | inl here ↦ let some : c ∷ changes_of resource changes ≡ [] = sym (filter-yes (λ change. same_resource change.resource resource) c changes here) ∙ none in absurd (cc)
      | inr elsewhere ↦ rw elsewhere (no_events_in stands rev changes (sym (filter-no (λ change. same_resource change.resource resource) c changes elsewhere) ∙ none))
    ]

    quiet_events : (revisions : List RevisionData) → filter_map (part_of resource) revisions ≡ [] → (stands : Standing) → events_from resource stands revisions ≡ []
    quiet_events [] none stands = refl
    quiet_events (x ∷ xs) none stands =
        let h = both x xs none in
        ap (λ (es : List EventData). es ++ events_from resource (λ key. row_next resource key (stands key) x) xs) (no_events_in stands x.rev x.changes h.0)
        ∙ quiet_events xs h.1 (λ key. row_next resource key (stands key) x)
