-- Mirrors begin, and go on revision by revision.
use Rattle.std.proofs.Common.{◌≡◌, ℕ, zero, suc, ◌+◌, ◌-◌, ◌<◌, ◌≤◌, Bool, true, false, List, [], ◌∷◌, ◌++◌, length, map, fold, filter_map, take, drop, Option, IfSome, Less, refl, sym, ap, ◌∙◌, subst, append_assoc, inl, inr, arith}
use Rattle.std.specs.Prelude.{◌↔◌, nat_eq, filter}
use Rattle.std.specs.List.{AllByRecursion}
use Rattle.std.specs.List.Sorted.{IsStrictlySortedBy}
use Rattle.std.specs.Cmp.Lexicographic.{slice_cmp}
use Rattle.std.specs.Ordering.{nat_cmp, ordering_then}
use Rattle.std.proofs.lemmas.Bool.{cases_Bool, cases_lt, eq-eqb, ne_eqb}
use Rattle.std.proofs.lemmas.List.{append-nil, length-append, length-take, length-drop, drop_at}
use Rattle.std.proofs.lemmas.List.Elements.{filter-append, recursion_from_All}
use Rattle.kube_meta.specs.declared.objects.Obj.{Obj}
use Rattle.kube_meta.specs.declared.resources.Resource.{Resource}
use Rattle.kube_meta.specs.declared.resources.Resource.TheVariants.{Pods}
use Rattle.kube_meta.specs.Resources.{place_of, same_resource}
use Rattle.kube_meta.specs.Rows.{RowData}
use Rattle.rev_log.specs.Changes.{ChangeData, RevisionData, change_cmp}
use Rattle.rev_log.specs.Logs.{Log, IsLog, grown, end_of, upto, between}
use Rattle.rev_log.specs.States.{row_after, row_at, IsStateAt}
use Rattle.rev_log.proofs.ChangeLemmas.{change_total}
use Rattle.rev_log.proofs.ExistLemmas.{exist}
use Rattle.rev_log.proofs.GrowthLemmas.{row_at-grown, row_at-pushed, upto-end}
use Rattle.select_all.specs.Streams.{TransitionData, Standing, IsEventWithin, event_of, events_in, events_from, events, transition_by, transitions_by, transition_cmp}
use Rattle.select_all.specs.Listings.{IsListingBy, listing_by, shown_by, row_told}
use Rattle.select_all.proofs.EventLaws.{all_weaker}
use Rattle.select_all.proofs.FollowLaws.{listings_are_followed}
use Rattle.select_all.proofs.ListingLaws.{listing_by_key, listings_are_by_key}
use Rattle.select_all.proofs.OrderLaws.{all_mapped, events_are, transitions_in_order, same_number}
use Rattle.select_all.proofs.StreamLaws.{transitions_are_joined, transitions_are_kept, no_transitions}
use Rattle.mirror_law.specs.Mirrors.{both, IsMirrorBy, opened_log, change_told, IsRevisionTold, of_revision, AreToldBy}
use Rattle.mirror_law.specs.Laws.{MirrorsBegin, MirrorsBeginAnew, MirrorsGoOn}
use Rattle.mirror_law.proofs.ListLemmas.{none_kept, all_kept, sorted_alike}
use Rattle.mirror_law.proofs.RowLemmas.{bases_are_states, logs_go_on}
use Rattle.mirror_law.proofs.EchoLemmas.{IsEventOf, rows_changed, all_echo}

-- ---- states as what stands at each key

-- the row of m at each key and revision is the peer's, if its object passes
abbrev pub StandsBy : (Obj → Bool) → Log → Resource → ℕ → Log → Type 0
StandsBy test peer resource b m = (r : ℕ) (key : List ℕ) → b ≤ r → r ≤ end_of m → row_at m resource r key ≡ shown_by test (row_at peer resource r key)

pub stands : (test : Obj → Bool) (peer : Log) (resource : Resource) (b : ℕ) (m : Log) → IsMirrorBy test peer resource b m → StandsBy test peer resource b m
stands test peer resource b m mirrors r key from within =
    let state = exist m mirrors.log.revisions resource r in
    let listing = listing_by_key test peer resource r state.0 ((mirrors.states r state.0 from within).0 state.1) in
    sym (state.1.exact key) ∙ listing.exact key

states_are : (test : Obj → Bool) (peer : Log) (resource : Resource) (b : ℕ) (m : Log) → IsLog peer → StandsBy test peer resource b m
    → (r : ℕ) (rows : List RowData) → b ≤ r → r ≤ end_of m → IsStateAt m resource r rows ↔ IsListingBy test peer resource r rows
states_are test peer resource b m is stand r rows from within = (
  λ state. (listings_are_by_key test peer resource r rows is.revisions).1 (record { rising = state.rising; exact = λ key. state.exact key ∙ stand r key from within }),
  λ listing. let by = listing_by_key test peer resource r rows listing in record { rising = by.rising; exact = λ key. by.exact key ∙ sym (stand r key from within) },
)

-- what is told from one revision to another takes the shown row at the one to that at the other
pub followed : (test : Obj → Bool) (peer : Log) (resource : Resource) (a c : ℕ) (key : List ℕ) → IsLog peer → a ≤ c
    → fold (row_told key) (shown_by test (row_at peer resource a key)) (transitions_by test peer resource a c) ≡ shown_by test (row_at peer resource c key)
followed test peer resource a c key is order =
    let first = exist peer is.revisions resource a in
    let second = exist peer is.revisions resource c in
    let before : IsListingBy test peer resource a (listing_by test first.0) = record { state = first.0; is_state = first.1; selected = refl } in
    let after : IsListingBy test peer resource c (listing_by test second.0) = record { state = second.0; is_state = second.1; selected = refl } in
    ap (λ (row : Option RowData). fold (row_told key) row (transitions_by test peer resource a c)) (sym ((listing_by_key test peer resource a (listing_by test first.0) before).exact key))
    ∙ sym (listings_are_followed test peer resource a c (listing_by test first.0) (listing_by test second.0) is order before after key)
    ∙ (listing_by_key test peer resource c (listing_by test second.0) after).exact key

-- ---- one revision of the peer

-- the events of at most one revision: the row before each is the one that stood there
stood : (resource : Resource) (rows : Standing) (xs : List RevisionData) → length xs ≤ 1 → AllByRecursion (λ event. event.before ≡ rows event.key) (events_from resource rows xs)
stood resource rows [] short = tt
stood resource rows (x ∷ []) short = subst (AllByRecursion (λ event. event.before ≡ rows event.key)) (sym (append-nil (events_in resource rows x)))
    (all_mapped (event_of resource rows x.rev) (λ c. Unit {0}) (λ event. event.before ≡ rows event.key) one x.changes (any x.changes))
  where
    any : (changes : List ChangeData) → AllByRecursion (λ (c : ChangeData). Unit {0}) changes
    any [] = tt
    any (c ∷ changes) = (tt, any changes)

    one : (c : ChangeData) → Unit {0} → IfSome (event_of resource rows x.rev c) (λ event. event.before ≡ rows event.key)
    one c _ = elim (cases_Bool (same_resource c.resource resource)) [ inl here ↦ rw here refl | inr elsewhere ↦ rw elsewhere tt ]
stood resource rows (x ∷ y ∷ xs) long = absurd (omega arith)

both_facts : {X : Type 0} (P Q R : X → Type 0) → ((x : X) → P x → Q x → R x) → (xs : List X) → AllByRecursion P xs → AllByRecursion Q xs → AllByRecursion R xs
both_facts P Q R so [] all others = tt
both_facts P Q R so (x ∷ xs) all others = (so x all.0 others.0, both_facts P Q R so xs all.1 others.1)

pub one_revision : (peer : Log) (resource : Resource) (e : ℕ) → IsLog peer → AllByRecursion (IsEventOf (row_at peer resource e) (e + 1)) (events peer resource e (e + 1))
one_revision peer resource e is =
    let taken = length-take (e + 1 - peer.first) peer.revisions in
    let dropped = length-drop (e - peer.first) (take (e + 1 - peer.first) peer.revisions) in
    both_facts (IsEventWithin e (e + 1)) (λ event. event.before ≡ row_at peer resource e event.key) (IsEventOf (row_at peer resource e) (e + 1))
    (λ event within before. record { number = omega (arith, within.above, within.within); before = before; before_keyed = within.before_keyed; now_keyed = within.now_keyed })
    (events peer resource e (e + 1)) (events_are peer resource e (e + 1) is)
    (stood resource (row_at peer resource e) (between peer e (e + 1)) (omega (arith, taken, dropped)))

-- ---- the revision that is made of it

pub told_number : (test : Obj → Bool) (peer : Log) (resource : Resource) (a b : ℕ) → IsLog peer → AllByRecursion (λ t. (a < t.rev) × (t.rev ≤ b)) (transitions_by test peer resource a b)
told_number test peer resource a b is = recursion_from_All (λ t. (a < t.rev) × (t.rev ≤ b)) (transitions_by test peer resource a b) (transitions_in_order test peer resource a b is).1

numbered_one : (test : Obj → Bool) (peer : Log) (resource : Resource) (e : ℕ) → IsLog peer → AllByRecursion (λ t. t.rev ≡ e + 1) (transitions_by test peer resource e (e + 1))
numbered_one test peer resource e is =
    all_weaker (λ t. (e < t.rev) × (t.rev ≤ e + 1)) (λ t. t.rev ≡ e + 1) (λ t within. omega (arith, within.0, within.1)) (transitions_by test peer resource e (e + 1)) (told_number test peer resource e (e + 1) is)

module _ (resource : Resource) (rev : ℕ) where
  change_below : (t u : TransitionData) → t.rev ≡ rev → u.rev ≡ rev → transition_cmp t u ≡ Less → change_cmp (change_told resource t) (change_told resource u) ≡ Less
  change_below t u first second less =
      let numbers : nat_cmp t.rev u.rev ≡ nat_cmp u.rev u.rev = ap (λ n. nat_cmp n u.rev) (first ∙ sym second) in
      let keys : slice_cmp nat_cmp t.obj.key u.obj.key ≡ Less = sym (ap (λ o. ordering_then o (slice_cmp nat_cmp t.obj.key u.obj.key)) (numbers ∙ same_number u.rev)) ∙ less in
      ap (λ o. ordering_then o (slice_cmp nat_cmp t.obj.key u.obj.key)) (same_number (place_of resource)) ∙ keys

  all_below : (t : TransitionData) (told : List TransitionData) → t.rev ≡ rev → AllByRecursion (λ u. u.rev ≡ rev) told → AllByRecursion (λ u. transition_cmp t u ≡ Less) told
      → AllByRecursion (λ c. change_cmp (change_told resource t) c ≡ Less) (map (change_told resource) told)
  all_below t [] first number above = tt
  all_below t (u ∷ told) first number above = (change_below t u first number.0 above.0, all_below t told first number.1 above.1)

  changes_sorted : (told : List TransitionData) → AllByRecursion (λ u. u.rev ≡ rev) told → IsStrictlySortedBy transition_cmp told → IsStrictlySortedBy change_cmp (map (change_told resource) told)
  unfolding IsStrictlySortedBy
  changes_sorted [] number sorted = tt
  changes_sorted (t ∷ told) number sorted = (all_below t told number.0 number.1 sorted.0, changes_sorted told number.1 sorted.1)

-- its changes are those of what was told, as that stands
changes_are : (test : Obj → Bool) (peer : Log) (resource : Resource) (e : ℕ) (revision : RevisionData) → IsLog peer → IsRevisionTold resource (e + 1) (transitions_by test peer resource e (e + 1)) revision
    → revision.changes ≡ map (change_told resource) (transitions_by test peer resource e (e + 1))
changes_are test peer resource e revision is told =
    let ts : List TransitionData = transitions_by test peer resource e (e + 1) in
    sym (sorted_alike change_cmp change_total (map (change_told resource) ts) revision.changes
    (changes_sorted resource (e + 1) ts (numbered_one test peer resource e is) (transitions_in_order test peer resource e (e + 1) is).0) told.is.rising told.changes)

module _ (test : Obj → Bool) (peer : Log) (resource : Resource) (b : ℕ) (m : Log) (revision : RevisionData)
    (is : IsLog peer) (mirrors : IsMirrorBy test peer resource b m) (within : end_of m + 1 ≤ end_of peer)
    (told : IsRevisionTold resource (end_of m + 1) (transitions_by test peer resource (end_of m) (end_of m + 1)) revision) where
  longer : end_of (grown m (revision ∷ [])) ≡ end_of m + 1
  longer = omega (arith, length-append m.revisions (revision ∷ []))

  -- what stands there
  row_next_is : (key : List ℕ) → row_at (grown m (revision ∷ [])) resource (end_of m + 1) key ≡ shown_by test (row_at peer resource (end_of m + 1) key)
  row_next_is key =
      let e : ℕ = end_of m in
      let ts : List TransitionData = transitions_by test peer resource e (e + 1) in
      row_at-pushed m revision resource key
      ∙ ap (λ (changes : List ChangeData). fold (row_after resource key revision.rev) (row_at m resource e key) changes) (changes_are test peer resource e revision is told)
      ∙ ap (λ (n : ℕ). fold (row_after resource key n) (row_at m resource e key) (map (change_told resource) ts)) told.number
      ∙ rows_changed resource key (e + 1) (row_at m resource e key) ts (numbered_one test peer resource e is)
      ∙ ap (λ (row : Option RowData). fold (row_told key) row ts) (stands test peer resource b m mirrors e key mirrors.begun (omega arith))
      ∙ followed test peer resource e (e + 1) key is (omega arith)

  stands_next : StandsBy test peer resource b (grown m (revision ∷ []))
  stands_next r key from upto_end = elim (cases_lt (end_of m) r) [
    | inl past ↦
        let last : r ≡ end_of m + 1 = omega (arith, longer, past, upto_end) in
        subst (λ n. row_at (grown m (revision ∷ [])) resource n key ≡ shown_by test (row_at peer resource n key)) (sym last) (row_next_is key)
    | inr old ↦ row_at-grown m (revision ∷ []) resource r key old ∙ stands test peer resource b m mirrors r key from old
  ]

  -- what is told of it
  last_revision : between (grown m (revision ∷ [])) (end_of m) (end_of m + 1) ≡ revision ∷ []
  last_revision =
      let count : end_of m - m.first ≡ length m.revisions = omega arith in
      ap (drop (end_of m - m.first)) (upto-end (grown m (revision ∷ [])) (end_of m + 1) (omega (arith, longer)))
      ∙ ap (λ n. drop n (m.revisions ++ revision ∷ [])) count
      ∙ drop_at m.revisions (revision ∷ []) (length m.revisions) refl

  events_next : events (grown m (revision ∷ [])) resource (end_of m) (end_of m + 1) ≡ filter_map (event_of resource (row_at m resource (end_of m)) revision.rev) revision.changes
  events_next =
      ap (λ (r : Standing). events_from resource r (between (grown m (revision ∷ [])) (end_of m) (end_of m + 1))) (λ i key. row_at-grown m (revision ∷ []) resource (end_of m) key (omega arith) i)
      ∙ ap (events_from resource (row_at m resource (end_of m))) last_revision
      ∙ append-nil (events_in resource (row_at m resource (end_of m)) revision)

  told_again : (other : Obj → Bool) → transitions_by other (grown m (revision ∷ [])) resource (end_of m) (end_of m + 1) ≡ transitions_by (both test other) peer resource (end_of m) (end_of m + 1)
  told_again other =
      let e : ℕ = end_of m in
      let ts : List TransitionData = transitions_by test peer resource e (e + 1) in
      ap (filter_map (transition_by other)) events_next
      ∙ ap (λ (changes : List ChangeData). filter_map (transition_by other) (filter_map (event_of resource (row_at m resource e) revision.rev) changes)) (changes_are test peer resource e revision is told)
      ∙ ap (λ (n : ℕ). filter_map (transition_by other) (filter_map (event_of resource (row_at m resource e) n) (map (change_told resource) ts))) told.number
      ∙ all_echo test other resource (e + 1) (row_at m resource e) (row_at peer resource e)
      (λ key. stands test peer resource b m mirrors e key mirrors.begun (omega arith)) (events peer resource e (e + 1)) (one_revision peer resource e is)

  streams_next : (other : Obj → Bool) (x y : ℕ) → b ≤ x → x ≤ y → y ≤ end_of (grown m (revision ∷ []))
      → transitions_by other (grown m (revision ∷ [])) resource x y ≡ transitions_by (both test other) peer resource x y
  streams_next other x y from order upto_end = elim (cases_lt (end_of m) y) [
    | inl past ↦
        let last : y ≡ end_of m + 1 = omega (arith, longer, past, upto_end) in
        subst (λ n. transitions_by other (grown m (revision ∷ [])) resource x n ≡ transitions_by (both test other) peer resource x n) (sym last)
        (elim (cases_lt (end_of m) x) [
          | inl at_end ↦ no_transitions other (grown m (revision ∷ [])) resource x (end_of m + 1) (omega (arith, at_end)) ∙ sym (no_transitions (both test other) peer resource x (end_of m + 1) (omega (arith, at_end)))
          | inr below ↦
              sym (transitions_are_joined other (grown m (revision ∷ [])) resource x (end_of m) (end_of m + 1) below (omega arith))
              ∙ ap (λ (first : List TransitionData). first ++ transitions_by other (grown m (revision ∷ [])) resource (end_of m) (end_of m + 1))
              (transitions_are_kept other m (revision ∷ []) resource x (end_of m) (omega arith) ∙ mirrors.streams other x (end_of m) from below (omega arith))
              ∙ ap (λ (rest : List TransitionData). transitions_by (both test other) peer resource x (end_of m) ++ rest) (told_again other)
              ∙ transitions_are_joined (both test other) peer resource x (end_of m) (end_of m + 1) below (omega arith)
        ])
    | inr old ↦ transitions_are_kept other m (revision ∷ []) resource x y (omega (arith, old)) ∙ mirrors.streams other x y from order old
  ]

  pub one_more : IsMirrorBy test peer resource b (grown m (revision ∷ []))
  one_more = record {
    log = logs_go_on m revision mirrors.log told.is told.number (omega (arith, within, is.ends));
    first = mirrors.first;
    begun = omega (arith, longer, mirrors.begun);
    reached = omega (arith, longer, within);
    states = states_are test peer resource b (grown m (revision ∷ [])) is stands_next;
    streams = streams_next;
  }

-- ---- the beginning

-- a log that has the listing at its end
pub mirrors_begin_anew : MirrorsBeginAnew
mirrors_begin_anew test peer resource b m rows is log end reached state listing =
    let by = listing_by_key test peer resource b rows listing in
    let here : StandsBy test peer resource b m = λ r key from within.
    let at : b ≡ r = omega (arith, from, within, end) in
    subst (λ n. row_at m resource n key ≡ shown_by test (row_at peer resource n key)) at (sym (state.exact key) ∙ by.exact key) in
    record {
      log = log;
      first = omega (arith, end);
      begun = omega (arith, end);
      reached = omega (arith, end, reached);
      states = states_are test peer resource b m is here;
      streams = λ other x y from order within. no_transitions other m resource x y (omega (arith, from, within, end)) ∙ sym (no_transitions (both test other) peer resource x y (omega (arith, from, within, end)));
    }

pub mirrors_begin : MirrorsBegin
mirrors_begin test peer b rows is reached listing old =
    let by = listing_by_key test peer Pods b rows listing in
    let log : IsLog (opened_log b rows) = record { base_rising = by.rising; base_old = old; numbered = tt; revisions = λ k d inside. absurd (omega (arith, inside)); ends = omega (arith, reached, is.ends) } in
    mirrors_begin_anew test peer Pods b (opened_log b rows) rows is log (omega arith) reached (bases_are_states b b rows by.rising) listing

-- ---- a stretch

-- of what is told of a stretch, that of one revision
pub of_one : (test : Obj → Bool) (peer : Log) (resource : Resource) (a n b : ℕ) → IsLog peer → a ≤ n → n + 1 ≤ b → of_revision (n + 1) (transitions_by test peer resource a b) ≡ transitions_by test peer resource n (n + 1)
of_one test peer resource a n b is first second =
    let at : TransitionData → Bool = λ t. nat_eq t.rev (n + 1) in
    let before : List TransitionData = transitions_by test peer resource a n in
    let here : List TransitionData = transitions_by test peer resource n (n + 1) in
    let after : List TransitionData = transitions_by test peer resource (n + 1) b in
    let parted : before ++ (here ++ after) ≡ transitions_by test peer resource a b =
    ap (λ (rest : List TransitionData). before ++ rest) (transitions_are_joined test peer resource n (n + 1) b (omega arith) second)
    ∙ transitions_are_joined test peer resource a n b first (omega (arith, second)) in
    let none_before : filter at before ≡ [] = none_kept at before (all_weaker (λ t. (a < t.rev) × (t.rev ≤ n)) (λ t. at t ≡ false) (λ t within. ne_eqb t.rev (n + 1) (λ same. absurd (omega (arith, same, within.1)))) before (told_number test peer resource a n is)) in
    let none_after : filter at after ≡ [] = none_kept at after (all_weaker (λ t. (n + 1 < t.rev) × (t.rev ≤ b)) (λ t. at t ≡ false) (λ t within. ne_eqb t.rev (n + 1) (λ same. absurd (omega (arith, same, within.0)))) after (told_number test peer resource (n + 1) b is)) in
    let all_here : filter at here ≡ here = all_kept at here (all_weaker (λ t. t.rev ≡ n + 1) (λ t. at t ≡ true) (λ t number. eq-eqb t.rev (n + 1) number) here (numbered_one test peer resource n is)) in
    ap (filter at) (sym parted)
    ∙ filter-append at before (here ++ after)
    ∙ ap (λ (l : List TransitionData). l ++ filter at (here ++ after)) none_before
    ∙ filter-append at here after
    ∙ ap (λ (l : List TransitionData). l ++ filter at after) all_here
    ∙ ap (λ (l : List TransitionData). here ++ l) none_after
    ∙ append-nil here

-- revisions that are told by a list that has, of each revision of the stretch, what was told of it
many_more : (test : Obj → Bool) (peer : Log) (resource : Resource) (b : ℕ) (ts : List TransitionData) (more : List RevisionData) (m : Log)
    → IsLog peer → IsMirrorBy test peer resource b m → end_of m + length more ≤ end_of peer
    → ((n : ℕ) → end_of m ≤ n → n + 1 ≤ end_of m + length more → of_revision (n + 1) ts ≡ transitions_by test peer resource n (n + 1))
    → AreToldBy resource ts (end_of m) more → IsMirrorBy test peer resource b (grown m more)
many_more test peer resource b ts [] m is mirrors within each told =
    subst (λ (revisions : List RevisionData). IsMirrorBy test peer resource b (record m { revisions = revisions })) (sym (append-nil m.revisions)) mirrors
many_more test peer resource b ts (x ∷ more) m is mirrors within each told =
    let zero_in : end_of m + 1 + 0 ≡ end_of m + 1 = omega arith in
    let first : IsRevisionTold resource (end_of m + 1) (of_revision (end_of m + 1) ts) x = subst (λ n. IsRevisionTold resource n (of_revision n ts) x) zero_in (told zero x refl) in
    let this : IsRevisionTold resource (end_of m + 1) (transitions_by test peer resource (end_of m) (end_of m + 1)) x =
    subst (λ (l : List TransitionData). IsRevisionTold resource (end_of m + 1) l x) (each (end_of m) (omega arith) (omega arith)) first in
    let next : IsMirrorBy test peer resource b (grown m (x ∷ [])) = one_more test peer resource b m x is mirrors (omega (arith, within)) this in
    let end : end_of (grown m (x ∷ [])) ≡ end_of m + 1 = omega (arith, length-append m.revisions (x ∷ [])) in
    let rest : AreToldBy resource ts (end_of (grown m (x ∷ []))) more = λ i found at.
    let place : end_of m + 1 + suc i ≡ end_of (grown m (x ∷ [])) + 1 + i = omega (arith, end) in
    subst (λ n. IsRevisionTold resource n (of_revision n ts) found) place (told (suc i) found at) in
    subst (λ (revisions : List RevisionData). IsMirrorBy test peer resource b (record m { revisions = revisions })) (append_assoc m.revisions (x ∷ []) more)
    (many_more test peer resource b ts more (grown m (x ∷ [])) is next (omega (arith, end, within)) (λ n from upto_end. each n (omega (arith, end, from)) (omega (arith, end, upto_end))) rest)

pub mirrors_go_on : MirrorsGoOn
mirrors_go_on test peer resource b upto m more is mirrors within reached told =
    many_more test peer resource b (transitions_by test peer resource (end_of m) upto) more m is mirrors (omega (arith, within, reached))
    (λ n from last. of_one test peer resource (end_of m) n upto is from (omega (arith, last, within))) told
