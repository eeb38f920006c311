-- Revisions that bridge lists of pods do so for each resource.
use Rattle.std.proofs.Common.{◌≡◌, ℕ, zero, suc, ◌+◌, ◌-◌, ◌^◌, ◌<◌, ◌≤◌, Bool, true, false, IsTrue, List, [], ◌∷◌, ◌++◌, length, map, fold, Option, Some, None, IfSome, All, Less, Ordering, bytes_eq, refl, sym, ap, ◌∙◌, subst, inl, inr, arith}
use Rattle.std.specs.Prelude.{filter, option_map, ◌&&◌, if◌then◌else◌}
use Rattle.std.specs.List.{AllByRecursion}
use Rattle.std.specs.List.Sorted.{IsStrictlySortedBy}
use Rattle.std.specs.Cmp.Lexicographic.{slice_cmp}
use Rattle.std.specs.Ordering.{nat_cmp, ordering_then}
use Rattle.std.proofs.lemmas.Bool.{cases_Bool, eq-eqb}
use Rattle.std.proofs.lemmas.List.{length-append, length-map}
use Rattle.std.proofs.lemmas.List.Elements.{recursion_from_All, All-from_recursion, All-append}
use Rattle.std.proofs.lemmas.List.Sums.{fold-append}
use Rattle.kube_meta.specs.declared.resources.Resource.{Resource}
use Rattle.kube_meta.specs.declared.resources.Resource.TheVariants.{Pods}
use Rattle.kube_meta.specs.Resources.{place_of, same_resource}
use Rattle.kube_meta.specs.Rows.{RowData, AreRising, key_of, row_with}
use Rattle.rev_front.specs.Passes.{quiets}
use Rattle.rev_log.specs.Changes.{ChangeData, RevisionData, HasItsKey, IsRevision, change_cmp}
use Rattle.rev_log.specs.Logs.{Log, IsLog, AreNumbered, grown, end_of, upto, quiet_at}
use Rattle.rev_log.specs.States.{is_change_of, row_after, row_next, row_in_base, row_at, IsStateAt}
use Rattle.rev_log.proofs.FitLemmas.{numbered}
use Rattle.rev_log.proofs.GrowthLemmas.{upto-end}
use Rattle.select_all.specs.declared.selection.Selection.{Selection}
use Rattle.select_all.specs.Selecting.{selects}
use Rattle.select_all.specs.Listings.{IsListing, shown_by}
use Rattle.select_all.proofs.EventLaws.{all_append, all_weaker}
use Rattle.select_all.proofs.ListingLaws.{listings_are_by_key}
use Rattle.select_all.proofs.OrderLaws.{same_number}
use Rattle.up_store.specs.Hearing.{AreAscending, filled}
use Rattle.up_store.proofs.HearLemmas.{filled-end}
use Rattle.mirror_law.specs.Mirrors.{opened_log}
use Rattle.mirror_law.proofs.ListLemmas.{all_kept}
use Rattle.mirror_law.proofs.RowLemmas.{bases_are_states}
use Rattle.mirror_log.specs.Bridges.{Bridges}
use Rattle.mirror_log.proofs.SparseLemmas.{filled_fits}
use Rattle.body_check.specs.Spans.{LeadsUp, BridgesLead}
use Rattle.body_check.specs.Turns.{MayStand}

-- ---- a revision of pods, of another resource

module _ (resource : Resource) where
  abbrev pub moved : ChangeData → ChangeData
  moved c = record { rev = c.rev; resource = resource; key = c.key; new = c.new }

  abbrev pub of_other : RevisionData → RevisionData
  of_other r = record { rev = r.rev; changes = map moved r.changes }

  -- it does to a row what the other one does
  same_change : (key : List ℕ) (rev : ℕ) (row : Option RowData) (c : ChangeData) → c.resource ≡ Pods → row_after resource key rev row (moved c) ≡ row_after Pods key rev row c
  same_change key rev row c pods =
      let here : same_resource resource resource ≡ true = eq-eqb (place_of resource) (place_of resource) refl in
      let there : same_resource c.resource Pods ≡ true = ap (λ (r : Resource). same_resource r Pods) pods in
      rw (here, there) refl

  same_changes : (key : List ℕ) (rev : ℕ) (row : Option RowData) (cs : List ChangeData) → AllByRecursion (λ c. c.resource ≡ Pods) cs
      → fold (row_after resource key rev) row (map moved cs) ≡ fold (row_after Pods key rev) row cs
  same_changes key rev row [] pods = refl
  same_changes key rev row (c ∷ cs) pods =
      ap (λ (r : Option RowData). fold (row_after resource key rev) r (map moved cs)) (same_change key rev row c pods.0) ∙ same_changes key rev (row_after Pods key rev row c) cs pods.1

  abbrev pub ArePods : RevisionData → Type 0
  ArePods r = AllByRecursion (λ c. c.resource ≡ Pods) r.changes

  pub same_revisions : (key : List ℕ) (row : Option RowData) (rs : List RevisionData) → AllByRecursion ArePods rs → fold (row_next resource key) row (map of_other rs) ≡ fold (row_next Pods key) row rs
  same_revisions key row [] pods = refl
  same_revisions key row (r ∷ rs) pods =
      ap (λ (o : Option RowData). fold (row_next resource key) o (map of_other rs)) (same_changes key r.rev row r.changes pods.0) ∙ same_revisions key (row_next Pods key row r) rs pods.1

  -- and is one
  less_moved : (c d : ChangeData) → c.resource ≡ Pods → d.resource ≡ Pods → change_cmp c d ≡ Less → change_cmp (moved c) (moved d) ≡ Less
  less_moved c d first second less =
      let places : nat_cmp (place_of c.resource) (place_of d.resource) ≡ nat_cmp (place_of Pods) (place_of Pods) =
      ap (λ (r : Resource). nat_cmp (place_of r) (place_of d.resource)) first ∙ ap (λ (r : Resource). nat_cmp (place_of Pods) (place_of r)) second in
      let keys : slice_cmp nat_cmp c.key d.key ≡ Less = sym (ap (λ o. ordering_then o (slice_cmp nat_cmp c.key d.key)) (places ∙ same_number (place_of Pods))) ∙ less in
      ap (λ o. ordering_then o (slice_cmp nat_cmp c.key d.key)) (same_number (place_of resource)) ∙ keys

  all_less : (c : ChangeData) (cs : List ChangeData) → c.resource ≡ Pods → AllByRecursion (λ d. d.resource ≡ Pods) cs → AllByRecursion (λ d. change_cmp c d ≡ Less) cs
      → AllByRecursion (λ d. change_cmp (moved c) d ≡ Less) (map moved cs)
  all_less c [] pod pods less = tt
  all_less c (d ∷ cs) pod pods less = (less_moved c d pod pods.0 less.0, all_less c cs pod pods.1 less.1)

  sorted_moved : (cs : List ChangeData) → AllByRecursion (λ d. d.resource ≡ Pods) cs → IsStrictlySortedBy change_cmp cs → IsStrictlySortedBy change_cmp (map moved cs)
  unfolding IsStrictlySortedBy
  sorted_moved [] pods sorted = tt
  sorted_moved (c ∷ cs) pods sorted = (all_less c cs pods.0 pods.1 sorted.0, sorted_moved cs pods.1 sorted.1)

  all_moved : (P Q : ChangeData → Type 0) → ((c : ChangeData) → P c → Q (moved c)) → (cs : List ChangeData) → AllByRecursion P cs → AllByRecursion Q (map moved cs)
  all_moved P Q so [] all = tt
  all_moved P Q so (c ∷ cs) all = (so c all.0, all_moved P Q so cs all.1)

  other_is : (r : RevisionData) → ArePods r → IsRevision r → IsRevision (of_other r)
  other_is r pods is = record {
    few = omega (arith, length-map r.changes moved, is.few);
    rising = sorted_moved r.changes pods is.rising;
    numbered = All-from_recursion (λ c. c.rev ≡ r.rev) (map moved r.changes)
        (all_moved (λ c. c.rev ≡ r.rev) (λ c. c.rev ≡ r.rev) (λ c same. same) r.changes (recursion_from_All (λ c. c.rev ≡ r.rev) r.changes is.numbered));
    keyed = All-from_recursion HasItsKey (map moved r.changes) (all_moved HasItsKey HasItsKey (λ c keyed. keyed) r.changes (recursion_from_All HasItsKey r.changes is.keyed));
  }

  pub all_others : (rs : List RevisionData) → AllByRecursion ArePods rs → AllByRecursion IsRevision rs → AllByRecursion IsRevision (map of_other rs)
  all_others [] pods are = tt
  all_others (r ∷ rs) pods are = (other_is r pods.0 are.0, all_others rs pods.1 are.1)

  pub numbered_others : (first : ℕ) (rs : List RevisionData) → AreNumbered first rs → AreNumbered first (map of_other rs)
  numbered_others first [] are = tt
  numbered_others first (r ∷ rs) are = (are.0, numbered_others (first + 1) rs are.1)

-- ---- filled revisions

quiet_pods : (from n : ℕ) → AllByRecursion (λ (r : RevisionData). AllByRecursion (λ (c : ChangeData). c.resource ≡ Pods) r.changes) (quiets quiet_at from n)
quiet_pods from zero = tt
quiet_pods from (suc n) = (tt, quiet_pods (from + 1) n)

filled_pods : (from : ℕ) (rs : List RevisionData) (to : ℕ) → AllByRecursion (λ (r : RevisionData). AllByRecursion (λ (c : ChangeData). c.resource ≡ Pods) r.changes) rs
    → AllByRecursion (λ (r : RevisionData). AllByRecursion (λ (c : ChangeData). c.resource ≡ Pods) r.changes) (filled from rs to)
filled_pods from [] to pods = quiet_pods from (to - from)
filled_pods from (r ∷ rs) to pods =
    all_append (λ (x : RevisionData). AllByRecursion (λ (c : ChangeData). c.resource ≡ Pods) x.changes) (quiets quiet_at from (r.rev - from - 1)) (r ∷ filled r.rev rs to)
    (quiet_pods from (r.rev - from - 1)) (pods.0, filled_pods r.rev rs to pods.1)

each_pods : (rs : List RevisionData) → AllByRecursion (λ (r : RevisionData). All (λ (c : ChangeData). c.resource ≡ Pods) r.changes) rs
    → AllByRecursion (λ (r : RevisionData). AllByRecursion (λ (c : ChangeData). c.resource ≡ Pods) r.changes) rs
each_pods rs all = all_weaker (λ (r : RevisionData). All (λ (c : ChangeData). c.resource ≡ Pods) r.changes) (λ (r : RevisionData). AllByRecursion (λ (c : ChangeData). c.resource ≡ Pods) r.changes)
    (λ r of. recursion_from_All (λ c. c.resource ≡ Pods) r.changes of) rs all

-- ---- a log with them

numbered_append : (first : ℕ) (xs ys : List RevisionData) → AreNumbered first xs → AreNumbered (first + length xs) ys → AreNumbered first (xs ++ ys)
numbered_append first [] ys before after = subst (λ (n : ℕ). AreNumbered n ys) (omega arith) after
numbered_append first (x ∷ xs) ys before after = (before.0, numbered_append (first + 1) xs ys before.1 (subst (λ (n : ℕ). AreNumbered n ys) (omega arith) after))

-- what stands at its end
row_at_end : (log : Log) (more : List RevisionData) (resource : Resource) (key : List ℕ) (at : ℕ) → end_of (grown log more) ≡ at
    → row_at (grown log more) resource at key ≡ fold (row_next resource key) (row_at log resource (end_of log) key) more
row_at_end log more resource key at end =
    let base : Option RowData = row_in_base log.base resource key in
    ap (fold (row_next resource key) base) (upto-end (grown log more) at (omega (arith, end)))
    ∙ fold-append (row_next resource key) base log.revisions more
    ∙ ap (λ (o : Option RowData). fold (row_next resource key) o more) (sym (ap (fold (row_next resource key) base) (upto-end log (end_of log) (omega arith))))

module _ (s : Selection) (m : Log) (old : List RowData) (at : ℕ) (rows : List RowData) (revisions : List RevisionData) (is : IsLog m) (state : IsStateAt m s.resource (end_of m) old)
    (onward : end_of m ≤ at) (within : at ≤ 2 ^ 62) (stand : MayStand s at rows) (bridges : Bridges Pods (end_of m) old at rows revisions) where
  all : List RevisionData
  all = filled (end_of m) revisions at

  more : List RevisionData
  more = map (of_other s.resource) all

  pods : AllByRecursion (ArePods s.resource) all
  unfolding all
  pods = filled_pods (end_of m) revisions at (each_pods revisions (recursion_from_All (λ r. All (λ c. c.resource ≡ Pods) r.changes) revisions bridges.alone))

  count : end_of m + length more ≡ at
  unfolding all more
  count = omega (arith, length-map (filled (end_of m) revisions at) (of_other s.resource), filled-end (end_of m) revisions at bridges.rise)

  are : AreNumbered (end_of m) all × All IsRevision all
  unfolding all
  are = numbered (end_of m) (filled (end_of m) revisions at) (filled_fits (end_of m) revisions at bridges.rise)

  end : end_of (grown m more) ≡ at
  end = omega (arith, length-append m.revisions more, count)

  log : IsLog (grown m more)
  unfolding more
  log = record {
    base_rising = is.base_rising;
    base_old = is.base_old;
    numbered = numbered_append m.first m.revisions (map (of_other s.resource) all) is.numbered (numbered_others s.resource (end_of m) all are.0);
    revisions = All-append IsRevision m.revisions (map (of_other s.resource) all) is.revisions
        (All-from_recursion IsRevision (map (of_other s.resource) all) (all_others s.resource all pods (recursion_from_All IsRevision all are.1)));
    ends = omega (arith, end, within);
  }

  -- a log of pods that begins with the old rows
  begins : Log
  begins = opened_log (end_of m) old

  led : IsStateAt (grown begins all) Pods at rows
  unfolding all begins
  led = bridges.leads (opened_log (end_of m) old) (omega arith) (bases_are_states (end_of m) (end_of m) old state.rising)

  end_begins : end_of (grown begins all) ≡ at
  unfolding all begins
  end_begins = omega (arith, filled-end (end_of m) revisions at bridges.rise)

  exact : (key : List ℕ) → row_with rows key ≡ row_at (grown m more) s.resource at key
  unfolding more begins
  exact key =
      led.exact key
      ∙ row_at_end (opened_log (end_of m) old) all Pods key at end_begins
      ∙ ap (λ (o : Option RowData). fold (row_next Pods key) o all) (sym ((bases_are_states (end_of m) (end_of m + 0) old state.rising).exact key))
      ∙ sym (same_revisions s.resource key (row_with old key) all pods)
      ∙ ap (λ (o : Option RowData). fold (row_next s.resource key) o (map (of_other s.resource) all)) (state.exact key)
      ∙ sym (row_at_end m (map (of_other s.resource) all) s.resource key at end)

  all_shown : (list : List RowData) (key : List ℕ) → AllByRecursion (λ row. IsTrue (selects s row.obj)) list → shown_by (selects s) (row_with list key) ≡ row_with list key
  all_shown [] key chosen = refl
  all_shown (row ∷ list) key chosen = elim (cases_Bool (bytes_eq key (key_of row))) [
    | inl here ↦ rw here (rw (chosen.0) refl)
    | inr past ↦ rw past (all_shown list key chosen.1)
  ]

  pub leads_to : (more : List RevisionData) × LeadsUp s m at rows more
  leads_to = (
    more,
    record {
      log = log;
      end = end;
      state = record { rising = stand.rising; exact = exact };
      listing = (listings_are_by_key (selects s) (grown m more) s.resource at rows log.revisions).1
          (record { rising = stand.rising; exact = λ key. sym (all_shown rows key (recursion_from_All (λ row. IsTrue (selects s row.obj)) rows stand.selected)) ∙ ap (shown_by (selects s)) (exact key) });
    },
  )

pub bridges_lead : BridgesLead
bridges_lead s m old at rows revisions is state onward within stand bridges = leads_to s m old at rows revisions is state onward within stand bridges
