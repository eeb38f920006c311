-- A log of one's own goes on by a revision of what was told.
use Rattle.std.proofs.Common.{◌≡◌, ℕ, zero, suc, ◌+◌, ◌-◌, ◌^◌, ◌<◌, ◌≤◌, Bool, true, false, IsTrue, List, [], ◌∷◌, ◌++◌, length, map, fold, filter_map, drop, Option, Some, None, IfSome, All, Less, bytes_eq, refl, sym, ap, ◌∙◌, subst, inl, inr, arith}
use Rattle.std.specs.Prelude.{IsSomeAnd}
use Rattle.std.specs.List.{AllByRecursion}
use Rattle.std.specs.List.Sorted.{IsStrictlySortedBy}
use Rattle.std.specs.Cmp.Lexicographic.{slice_cmp}
use Rattle.std.specs.Ordering.{nat_cmp, ordering_then}
use Rattle.std.proofs.lemmas.Bool.{cases_Bool, cases_lt, eq-eqb}
use Rattle.std.proofs.lemmas.List.{append-nil, length-append, length-map, drop_at}
use Rattle.std.proofs.lemmas.List.Elements.{recursion_from_All, All-from_recursion}
use Rattle.kube_meta.specs.declared.objects.Obj.{Obj}
use Rattle.kube_meta.specs.declared.resources.Resource.{Resource}
use Rattle.kube_meta.specs.Resources.{place_of, same_resource}
use Rattle.kube_meta.specs.Rows.{RowData, key_of}
use Rattle.rev_log.specs.Changes.{ChangeData, RevisionData, IsRevision, HasItsKey, change_cmp}
use Rattle.rev_log.specs.Logs.{Log, IsLog, grown, end_of, between}
use Rattle.rev_log.specs.States.{row_at}
use Rattle.rev_log.proofs.GrowthLemmas.{row_at-grown, row_at-pushed, upto-end}
use Rattle.select_all.specs.declared.selection.Selection.{Selection}
use Rattle.select_all.specs.declared.selection.Kind.{Kind}
use Rattle.select_all.specs.declared.selection.Kind.TheVariants.{Added, Modified, Deleted}
use Rattle.select_all.specs.Selecting.{selects}
use Rattle.select_all.specs.Listings.{IsListing, row_left, row_told}
use Rattle.select_all.specs.Streams.{Standing, TransitionData, event_of, events, events_in, events_from, transition_by, transitions, transitions_by, transition_cmp}
use Rattle.select_all.proofs.EventLaws.{all_weaker}
use Rattle.select_all.proofs.ListingLaws.{listings_are_kept}
use Rattle.select_all.proofs.OrderLaws.{same_number}
use Rattle.mirror_law.specs.Mirrors.{change_told}
use Rattle.mirror_law.proofs.EchoLemmas.{rows_changed}
use Rattle.mirror_law.proofs.RowLemmas.{logs_go_on}
use Rattle.body_check.specs.Walks.{IsFitting, FitAtOnce, revision_told, IsOwn, GrowsOn, OwnLogsGoOn}
use Rattle.body_check.specs.Turns.{FitsRow}

same_itself : (resource : Resource) → same_resource resource resource ≡ true
same_itself resource = eq-eqb (place_of resource) (place_of resource) refl

-- ---- what is told of changes that are made of what was told

module _ (test : Obj → Bool) (resource : Resource) (rows : Standing) (rev : ℕ)
    (shown : (key : List ℕ) → IfSome (rows key) (λ row. IsTrue (test row.obj))) where
  abbrev pub retold : List TransitionData → List TransitionData
  retold told = filter_map (transition_by test) (filter_map (event_of resource rows rev) (map (change_told resource) told))

  stood : (key : List ℕ) (row : RowData) → rows key ≡ Some row → IsTrue (test row.obj)
  stood key row is = subst (λ (o : Option RowData). IfSome o (λ r. IsTrue (test r.obj))) is (shown key)

  one : (kind : Kind) (obj : Obj) (row : Option RowData) (more rest : List TransitionData) → rows obj.key ≡ row → IsTrue (test obj) → FitsRow kind obj row → retold more ≡ rest
      → retold (record { kind = kind; obj = obj; rev = rev } ∷ more) ≡ record { kind = kind; obj = obj; rev = rev } ∷ rest
  one Added obj None more rest at chosen fits same = rw (same_itself resource, at) (simp chosen (ap (λ (l : List TransitionData). record { kind = Added; obj = obj; rev = rev } ∷ l) same))
  one Added obj (Some row) more rest at chosen fits same = absurd (let bad : Some row ≡ None = fits in cc)
  one Modified obj None more rest at chosen fits same = absurd fits
  one Modified obj (Some row) more rest at chosen fits same =
      rw (same_itself resource, at) (simp (chosen, stood obj.key row at) (ap (λ (l : List TransitionData). record { kind = Modified; obj = obj; rev = rev } ∷ l) same))
  one Deleted obj None more rest at chosen fits same = absurd fits
  one Deleted obj (Some row) more rest at chosen fits same =
      rw (same_itself resource, at) (simp (stood obj.key row at) (
      ap (λ (o : Obj). record { kind = Deleted; obj = o; rev = rev } ∷ retold more) fits
      ∙ ap (λ (l : List TransitionData). record { kind = Deleted; obj = obj; rev = rev } ∷ l) same))

  pub all_retold : (told : List TransitionData) → AllByRecursion (IsFitting test rows rev) told → retold told ≡ told
  all_retold [] are = refl
  all_retold (t ∷ told) are =
      subst (λ (n : ℕ). retold (record { kind = t.kind; obj = t.obj; rev = n } ∷ told) ≡ record { kind = t.kind; obj = t.obj; rev = n } ∷ told) (sym are.0.number)
      (one t.kind t.obj (rows t.obj.key) told told refl are.0.selected are.0.fits (all_retold told are.1))

-- ---- the revision

module _ (resource : Resource) (rev : ℕ) where
  change_below : (t u : TransitionData) → t.rev ≡ rev → u.rev ≡ rev → transition_cmp t u ≡ Less → change_cmp (change_told resource t) (change_told resource u) ≡ Less
  change_below t u first second less =
      let numbers : nat_cmp t.rev u.rev ≡ nat_cmp u.rev u.rev = ap (λ n. nat_cmp n u.rev) (first ∙ sym second) in
      let keys : slice_cmp nat_cmp t.obj.key u.obj.key ≡ Less = sym (ap (λ o. ordering_then o (slice_cmp nat_cmp t.obj.key u.obj.key)) (numbers ∙ same_number u.rev)) ∙ less in
      ap (λ o. ordering_then o (slice_cmp nat_cmp t.obj.key u.obj.key)) (same_number (place_of resource)) ∙ keys

  all_below : (t : TransitionData) (told : List TransitionData) → t.rev ≡ rev → AllByRecursion (λ u. u.rev ≡ rev) told → AllByRecursion (λ u. transition_cmp t u ≡ Less) told
      → AllByRecursion (λ c. change_cmp (change_told resource t) c ≡ Less) (map (change_told resource) told)
  all_below t [] first number above = tt
  all_below t (u ∷ told) first number above = (change_below t u first number.0 above.0, all_below t told first number.1 above.1)

  changes_sorted : (told : List TransitionData) → AllByRecursion (λ u. u.rev ≡ rev) told → IsStrictlySortedBy transition_cmp told → IsStrictlySortedBy change_cmp (map (change_told resource) told)
  unfolding IsStrictlySortedBy
  changes_sorted [] number sorted = tt
  changes_sorted (t ∷ told) number sorted = (all_below t told number.0 number.1 sorted.0, changes_sorted told number.1 sorted.1)

  changes_numbered : (told : List TransitionData) → AllByRecursion (λ u. u.rev ≡ rev) told → AllByRecursion (λ (c : ChangeData). c.rev ≡ rev) (map (change_told resource) told)
  changes_numbered [] number = tt
  changes_numbered (t ∷ told) number = (number.0, changes_numbered told number.1)

  changes_keyed : (told : List TransitionData) → AllByRecursion HasItsKey (map (change_told resource) told)
  changes_keyed [] = tt
  changes_keyed (t ∷ told) = (keyed t.kind t.obj t.rev, changes_keyed told)
    where
      keyed : (kind : Kind) (obj : Obj) (n : ℕ) → HasItsKey (change_told resource (record { kind = kind; obj = obj; rev = n }))
      keyed Added obj n = refl
      keyed Modified obj n = refl
      keyed Deleted obj n = tt

  pub is_revision : (test : Obj → Bool) (rows : Standing) (kept : List TransitionData) → FitAtOnce test rows rev kept → IsRevision (revision_told resource rev kept)
  is_revision test rows kept are =
      let numbers : AllByRecursion (λ u. u.rev ≡ rev) kept = all_weaker (IsFitting test rows rev) (λ u. u.rev ≡ rev) (λ u f. f.number) kept (recursion_from_All (IsFitting test rows rev) kept are.each) in
      record {
        few = omega (arith, length-map kept (change_told resource), are.few);
        rising = changes_sorted kept numbers are.sorted;
        numbered = All-from_recursion (λ (c : ChangeData). c.rev ≡ rev) (map (change_told resource) kept) (changes_numbered kept numbers);
        keyed = All-from_recursion HasItsKey (map (change_told resource) kept) (changes_keyed kept);
      }

-- ---- the log with it

module _ (s : Selection) (from : ℕ) (rows : List RowData) (m : Log) (kept : List TransitionData) (own : IsOwn s from rows m)
    (within : end_of m + 1 ≤ 2 ^ 62) (are : FitAtOnce (selects s) (row_at m s.resource (end_of m)) (end_of m + 1) kept) where
  abbrev pub revision : RevisionData
  revision = revision_told s.resource (end_of m + 1) kept

  longer : end_of (grown m (revision ∷ [])) ≡ end_of m + 1
  longer = omega (arith, length-append m.revisions (revision ∷ []))

  each : AllByRecursion (IsFitting (selects s) (row_at m s.resource (end_of m)) (end_of m + 1)) kept
  each = recursion_from_All (IsFitting (selects s) (row_at m s.resource (end_of m)) (end_of m + 1)) kept are.each

  row_next_is : (key : List ℕ) → row_at (grown m (revision ∷ [])) s.resource (end_of m + 1) key ≡ fold (row_told key) (row_at m s.resource (end_of m) key) kept
  row_next_is key =
      row_at-pushed m revision s.resource key
      ∙ rows_changed s.resource key (end_of m + 1) (row_at m s.resource (end_of m) key) kept
      (all_weaker (IsFitting (selects s) (row_at m s.resource (end_of m)) (end_of m + 1)) (λ t. t.rev ≡ end_of m + 1) (λ t f. f.number) kept each)

  last_revision : between (grown m (revision ∷ [])) (end_of m) (end_of m + 1) ≡ revision ∷ []
  last_revision =
      let count : end_of m - m.first ≡ length m.revisions = omega arith in
      ap (drop (end_of m - m.first)) (upto-end (grown m (revision ∷ [])) (end_of m + 1) (omega (arith, longer)))
      ∙ ap (λ n. drop n (m.revisions ++ revision ∷ [])) count
      ∙ drop_at m.revisions (revision ∷ []) (length m.revisions) refl

  events_next : events (grown m (revision ∷ [])) s.resource (end_of m) (end_of m + 1) ≡ filter_map (event_of s.resource (row_at m s.resource (end_of m)) revision.rev) revision.changes
  events_next =
      ap (λ (r : Standing). events_from s.resource r (between (grown m (revision ∷ [])) (end_of m) (end_of m + 1))) (λ i key. row_at-grown m (revision ∷ []) s.resource (end_of m) key (omega arith) i)
      ∙ ap (events_from s.resource (row_at m s.resource (end_of m))) last_revision
      ∙ append-nil (events_in s.resource (row_at m s.resource (end_of m)) revision)

  shown_end : (key : List ℕ) → IfSome (row_at m s.resource (end_of m) key) (λ row. IsTrue (selects s row.obj))
  shown_end key = own.shown (end_of m) key own.reached (omega arith)

  tells_kept : transitions (grown m (revision ∷ [])) s (end_of m) (end_of m + 1) ≡ kept
  tells_kept =
      ap (filter_map (transition_by (selects s))) events_next
      ∙ all_retold (selects s) s.resource (row_at m s.resource (end_of m)) (end_of m + 1) shown_end kept each

  -- what was told and selected stands, selected
  shown_told : (key : List ℕ) (row : Option RowData) (told : List TransitionData) → AllByRecursion (λ t. IsTrue (selects s t.obj)) told → IfSome row (λ r. IsTrue (selects s r.obj))
      → IfSome (fold (row_told key) row told) (λ r. IsTrue (selects s r.obj))
  shown_told key row [] chosen is = is
  shown_told key row (t ∷ told) chosen is = shown_told key (row_told key row t) told chosen.1 (elim (cases_Bool (bytes_eq t.obj.key key)) [
    | inl here ↦ rw here (left t.kind t.obj t.rev chosen.0)
    | inr other ↦ rw other is
  ])
    where
      left : (kind : Kind) (obj : Obj) (n : ℕ) → IsTrue (selects s obj) → IfSome (row_left (record { kind = kind; obj = obj; rev = n })) (λ r. IsTrue (selects s r.obj))
      left Added obj n picked = picked
      left Modified obj n picked = picked
      left Deleted obj n picked = tt

  shown_next : (r : ℕ) (key : List ℕ) → from ≤ r → r ≤ end_of (grown m (revision ∷ [])) → IfSome (row_at (grown m (revision ∷ [])) s.resource r key) (λ row. IsTrue (selects s row.obj))
  shown_next r key above upto = elim (cases_lt (end_of m) r) [
    | inl past ↦
        let last : r ≡ end_of m + 1 = omega (arith, longer, past, upto) in
        subst (λ n. IfSome (row_at (grown m (revision ∷ [])) s.resource n key) (λ row. IsTrue (selects s row.obj))) (sym last)
        (subst (λ (o : Option RowData). IfSome o (λ row. IsTrue (selects s row.obj))) (sym (row_next_is key))
        (shown_told key (row_at m s.resource (end_of m) key) kept
        (all_weaker (IsFitting (selects s) (row_at m s.resource (end_of m)) (end_of m + 1)) (λ t. IsTrue (selects s t.obj)) (λ t f. f.selected) kept each) (shown_end key)))
    | inr old ↦ subst (λ (o : Option RowData). IfSome o (λ row. IsTrue (selects s row.obj))) (sym (row_at-grown m (revision ∷ []) s.resource r key old)) (own.shown r key above old)
  ]

  pub goes_on : GrowsOn s from rows m kept (grown m (revision ∷ []))
  goes_on = record {
    own = record {
      log = logs_go_on m revision own.log (is_revision s.resource (end_of m + 1) (selects s) (row_at m s.resource (end_of m)) kept are) refl within;
      begun = own.begun;
      reached = omega (arith, longer, own.reached);
      listing = listings_are_kept (selects s) m (revision ∷ []) s.resource from rows own.reached own.listing;
      shown = shown_next;
    };
    end = longer;
    tells = tells_kept;
    stands = row_next_is;
  }

pub own_logs_go_on : OwnLogsGoOn
own_logs_go_on s from rows m kept own within are = goes_on s from rows m kept own within are
