-- The first list: which log has it.
use Rattle.std.proofs.Common.{◌≡◌, ℕ, ◌+◌, ◌-◌, ◌*◌, ◌^◌, ◌<◌, ◌≤◌, Bool, true, false, IsTrue, List, [], ◌∷◌, length, take, fold, Option, Some, None, IfSome, All, bytes_eq, refl, sym, ap, ◌∙◌, subst, inl, inr, arith}
use Rattle.std.specs.Prelude.{filter, nat_eq, nat_lt, if◌then◌else◌}
use Rattle.std.specs.List.{AllByRecursion}
use Rattle.std.specs.List.Sorted.{IsStrictlySortedBy}
use Rattle.std.proofs.lemmas.Bool.{cases_Bool, cases_lt, ne_eqb, lt-ltb}
use Rattle.std.proofs.lemmas.List.Elements.{recursion_from_All, All-from_recursion, All-nil}
use Rattle.std.proofs.Math.Seq.{take-nil}
use Rattle.kube_meta.specs.declared.objects.Obj.{Obj}
use Rattle.kube_meta.specs.declared.resources.Resource.{Resource}
use Rattle.kube_meta.specs.declared.resources.Resource.TheVariants.{Pods, ConfigMaps, Deployments}
use Rattle.kube_meta.specs.Resources.{same_resource}
use Rattle.kube_meta.specs.Rows.{RowData, AreRising, key_of, row_with}
use Rattle.rev_log.specs.Changes.{RevisionData, IsRevision}
use Rattle.rev_log.specs.Logs.{Log, IsLog, grown, end_of}
use Rattle.rev_log.specs.States.{row_at, row_next, row_in_base, IsStateAt}
use Rattle.select_all.specs.declared.selection.Selection.{Selection}
use Rattle.select_all.specs.Selecting.{selects}
use Rattle.select_all.specs.Listings.{IsListing, shown_by}
use Rattle.select_all.proofs.EventLaws.{all_weaker}
use Rattle.select_all.proofs.ListingLaws.{listings_are_by_key}
use Rattle.mirror_law.specs.Mirrors.{opened_log}
use Rattle.mirror_law.proofs.ListLemmas.{none_kept, all_kept}
use Rattle.mirror_law.proofs.RowLemmas.{bases_are_states}
use Rattle.mirror_log.specs.Bridges.{MayBeOfOneLog, Bridges, IsKept, younger, written_at, gone}
use Rattle.watch_record.specs.Between.{LaterData, IsRowRead}
use Rattle.body_check.specs.Heard.{CanFollow, CannotFollow}
use Rattle.body_check.specs.Spans.{LeadsUp}
use Rattle.body_check.specs.Turns.{MayStand}
use Rattle.body_check.specs.Walks.{IsOwn, HasFirst}
use Rattle.body_check.proofs.BridgeLemmas.{bridges_lead}
use Rattle.body_check.proofs.SpanLemmas.{lists_may_follow}

found_in : (P : RowData → Type 0) (rows : List RowData) (key : List ℕ) → AllByRecursion P rows → IfSome (row_with rows key) P
found_in P [] key all = tt
found_in P (row ∷ rows) key all = elim (cases_Bool (bytes_eq key (key_of row))) [
  | inl here ↦ rw here (all.0)
  | inr past ↦ rw past (found_in P rows key all.1)
]

shown_all : (test : Obj → Bool) (row : Option RowData) → IfSome row (λ r. IsTrue (test r.obj)) → shown_by test row ≡ row
shown_all test None is = refl
shown_all test (Some r) is = rw is refl

module _ (s : Selection) (from : ℕ) (rows : List RowData) (within : from ≤ 2 ^ 62) (stand : MayStand s from rows) where
  chosen : (key : List ℕ) → IfSome (row_with rows key) (λ row. IsTrue (selects s row.obj))
  chosen key = found_in (λ row. IsTrue (selects s row.obj)) rows key (recursion_from_All (λ row. IsTrue (selects s row.obj)) rows stand.selected)

  -- a log at whose end they stand is one's own
  owns : (m : Log) → IsLog m → m.first ≤ from → from ≤ end_of m → ((r : ℕ) → from ≤ r → r ≤ end_of m → IsStateAt m s.resource r rows) → IsOwn s from rows m
  owns m is begun reached state = record {
    log = is;
    begun = begun;
    reached = reached;
    listing = (listings_are_by_key (selects s) m s.resource from rows is.revisions).1
        (record { rising = stand.rising; exact = λ key. sym (shown_all (selects s) (row_with rows key) (chosen key)) ∙ ap (shown_by (selects s)) ((state from (omega arith) reached).exact key) });
    shown = λ r key above upto. subst (λ (o : Option RowData). IfSome o (λ row. IsTrue (selects s row.obj))) ((state r above upto).exact key) (chosen key);
  }

  pub owns_pods : s.resource ≡ Pods → (m : Log) × IsOwn s from rows m × (end_of m ≡ from)
  owns_pods pods = (
    opened_log from rows,
    owns (opened_log from rows)
        (record { base_rising = stand.rising; base_old = stand.within; numbered = tt; revisions = All-nil IsRevision; ends = omega (arith, within) })
        (omega arith) (omega arith)
        (λ r above upto. subst (λ (resource : Resource). IsStateAt (opened_log from rows) resource r rows) (sym pods) (bases_are_states from r rows stand.rising)),
    omega arith,
  )

  none_in : (resource : Resource) (key : List ℕ) → row_in_base [] resource key ≡ None
  none_in resource key = elim (cases_Bool (same_resource resource Pods)) [ inl pods ↦ rw pods refl | inr other ↦ rw other refl ]

  empty_state : IsStateAt (opened_log 0 []) s.resource 0 []
  unfolding IsStrictlySortedBy
  empty_state = record { rising = tt; exact = λ key. sym (none_in s.resource key) }

  pub owns_others : CanFollow s 0 [] (record { rows = rows; at = from; place = 0 }) → (m : Log) × IsOwn s from rows m × (end_of m ≡ from)
  owns_others can =
      let led = bridges_lead s (opened_log 0 []) [] from rows can.revisions
      (record { base_rising = empty_state.rising; base_old = All-nil (λ row. row.rev ≤ 0); numbered = tt; revisions = All-nil IsRevision; ends = omega arith })
      empty_state (omega arith) within stand can.bridges in
      let to : LeadsUp s (opened_log 0 []) from rows led.0 = led.1 in (
        grown (opened_log 0 []) led.0,
        owns (grown (opened_log 0 []) led.0) to.log (omega arith) (omega (arith, to.end))
            (λ r above upto. subst (λ (n : ℕ). IsStateAt (grown (opened_log 0 []) led.0) s.resource n rows) (omega (arith, above, upto, to.end)) to.state),
        to.end,
      )

-- ---- a log that has them

pub stand_there : (s : Selection) (from : ℕ) (rows : List RowData) (peer : Log) → HasFirst s from rows peer → MayStand s from rows
stand_there s from rows peer first = (lists_may_follow s peer from from rows rows first.is first.begun (omega arith) first.listing first.listing).0

module _ (s : Selection) (from : ℕ) (rows : List RowData) (peer : Log) (first : HasFirst s from rows peer) (other : same_resource s.resource Pods ≡ false) (read : All IsRowRead rows) where
  nothing : IsListing peer s peer.first []
  unfolding IsStrictlySortedBy
  nothing = record {
    state = [];
    is_state = record { rising = tt; exact = λ key. sym (ap (λ n. fold (row_next s.resource key) (row_in_base peer.base s.resource key) (take n peer.revisions)) (zero_is peer.first) ∙ rw other refl) };
    selected = refl;
  }
    where
      zero_is : (n : ℕ) → n - n ≡ 0
      zero_is n = omega arith

  of_one : MayBeOfOneLog peer.first [] from rows
  of_one = (lists_may_follow s peer peer.first from [] rows first.is (omega arith) first.begun nothing first.listing).1

  later : AllByRecursion (λ row. peer.first < row.rev) rows
  later = all_weaker (λ row. row.rev ≤ peer.first → IsKept [] row) (λ row. peer.first < row.rev)
      (λ row kept. elim (cases_lt peer.first row.rev) [
        | inl above ↦ above
        | inr low ↦ absurd (let bad : IsKept [] row = kept low in no_row row bad)
      ]) rows (recursion_from_All (λ row. row.rev ≤ peer.first → IsKept [] row) rows of_one.kept)
    where
      no_row : (row : RowData) → IsKept [] row → ⊥
      no_row row is = cc

  positive : AllByRecursion (λ row. 0 < row.rev) rows
  positive = all_weaker IsRowRead (λ row. 0 < row.rev) (λ row is. omega (arith, is.0)) rows (recursion_from_All IsRowRead rows read)

  pub of_log_from_none : MayBeOfOneLog 0 [] from rows
  of_log_from_none = record {
    kept = All-from_recursion (λ row. row.rev ≤ 0 → IsKept [] row) rows (all_weaker (λ row. 0 < row.rev) (λ row. row.rev ≤ 0 → IsKept [] row) (λ row above low. absurd (omega (arith, above, low))) rows positive);
    few = λ rev above. elim (cases_lt peer.first rev) [
      | inl past ↦ of_one.few rev past
      | inr early ↦
          let none : written_at rev rows ≡ [] = none_kept (λ row. nat_eq row.rev rev) rows
          (all_weaker (λ row. peer.first < row.rev) (λ row. nat_eq row.rev rev ≡ false) (λ row young. ne_eqb row.rev rev (λ same. absurd (omega (arith, same, young, early)))) rows later) in
          omega (arith, ap length none)
    ];
    room =
        let all : younger 0 rows ≡ rows = all_kept (λ row. nat_lt 0 row.rev) rows (all_weaker (λ row. 0 < row.rev) (λ row. nat_lt 0 row.rev ≡ true) (λ row above. lt-ltb 0 row.rev above) rows positive) in
        let same : younger peer.first rows ≡ rows = all_kept (λ row. nat_lt peer.first row.rev) rows
        (all_weaker (λ row. peer.first < row.rev) (λ row. nat_lt peer.first row.rev ≡ true) (λ row above. lt-ltb peer.first row.rev above) rows later) in
        omega (arith, ap length all, ap length same, of_one.room);
  }
