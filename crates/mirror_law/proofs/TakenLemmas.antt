-- A mirror that follows takes the next line of a lawful body.
use Rattle.std.proofs.Common.{◌≡◌, ℕ, ◌+◌, ◌-◌, ◌<◌, ◌≤◌, Bool, true, false, IsTrue, ltb, eqb, List, [], ◌∷◌, ◌++◌, length, map, fold, filter_map, take, Option, Some, None, IfSome, All, Less, refl, sym, ap, ◌∙◌, subst, append_assoc, inl, inr, arith}
use Rattle.std.specs.Prelude.{filter}
use Rattle.std.specs.List.{AllByRecursion, cons_option}
use Rattle.std.specs.List.Sorted.{IsStrictlySortedBy}
use Rattle.std.proofs.lemmas.Bool.{cases_Bool, cases_lt, lt-ltb, le-ltb, eq-eqb, ne_eqb}
use Rattle.std.proofs.lemmas.List.{length-append, length-take, length-drop}
use Rattle.std.proofs.lemmas.List.Elements.{filter-append, recursion_from_All, All-from_recursion, All-filter, filter_passes, filter_map-append, All-map, All-append, All-weaker}
use Rattle.kube_meta.specs.declared.objects.Obj.{Obj}
use Rattle.kube_meta.specs.declared.resources.Resource.{Resource}
use Rattle.kube_meta.specs.Rows.{RowData, key_of}
use Rattle.rev_log.specs.Changes.{RevisionData, IsRevision}
use Rattle.rev_log.specs.Logs.{Log, IsLog, end_of, between}
use Rattle.rev_log.specs.States.{row_at}
use Rattle.select_all.specs.declared.selection.Selection.{Selection}
use Rattle.select_all.specs.Selecting.{selects}
use Rattle.select_all.specs.Streams.{EventData, TransitionData, Standing, event_of, events_in, events_from, events, transition_by, transitions, transitions_by, transition_cmp}
use Rattle.select_all.specs.Listings.{shown_by, row_told}
use Rattle.select_all.specs.Listings.{IsListing}
use Rattle.select_all.proofs.EventLaws.{all_weaker}
use Rattle.select_all.proofs.ListingLaws.{listing_by_key}
use Rattle.select_all.proofs.OrderLaws.{all_mapped, transitions_in_order, are_selected, revisions_between}
use Rattle.watch_rules.specs.declared.ask.WatchAsk.{WatchAsk}
use Rattle.watch_rules.specs.Bodies.{Line, Told, Bookmark, Closing, Lost, Body, initial, told_by, told_in, position_of, TellsBody, BeginsBody}
use Rattle.watch_rules.proofs.BodyLemmas.{streams_are_told, positions_are_between}
use Rattle.watch_rules.proofs.BookmarkLemmas.{closings_tell_the_start}
use Rattle.mirror_law.specs.Mirrors.{of_revision}
use Rattle.mirror_law.specs.Following.{told_since, upto_in, Follows}
use Rattle.mirror_law.specs.Taking.{IsNotAbove, IsPastOpening, FitsKind, row_before, IsTakenEvent, IsTakenMark, IsTaken}
use Rattle.mirror_law.specs.Laws.{OpeningsAreTaken, LinesAreReached, LawfulLinesAreTaken}
use Rattle.mirror_law.proofs.ListLemmas.{none_kept, all_kept}
use Rattle.mirror_law.proofs.EchoLemmas.{IsEventOf}
use Rattle.mirror_law.proofs.MirrorLemmas.{stands, followed, one_revision, told_number, of_one}
use Rattle.mirror_law.proofs.RowLemmas.{rows_are_old}
use Rattle.mirror_law.proofs.LineLemmas.{last_part}
use Rattle.mirror_law.proofs.FollowLemmas.{within_end, old_rows, told_behind, event_stream, event_told, mark_told, opening_listed}
use Rattle.mirror_law.proofs.OnwardLemmas.{below_at, GoesOnward, goes_onward}

-- ---- what is told of one revision

one_fewer : {Y : Type 0} (o : Option Y) (ys : List Y) (n : ℕ) → length ys ≤ n → length (cons_option o ys) ≤ n + 1
one_fewer None ys n few = omega (arith, few)
one_fewer (Some y) ys n few = omega (arith, few)

pub fewer : {X Y : Type 0} (h : X → Option Y) (xs : List X) → length (filter_map h xs) ≤ length xs
fewer h [] = omega arith
fewer h (x ∷ xs) = omega (arith, one_fewer (h x) (filter_map h xs) (length xs) (fewer h xs))

few_events : (resource : Resource) (rows : Standing) (xs : List RevisionData) → length xs ≤ 1 → AllByRecursion IsRevision xs → length (events_from resource rows xs) ≤ 64
few_events resource rows [] short all = omega arith
few_events resource rows (x ∷ []) short all =
    omega (arith, length-append (events_in resource rows x) [], fewer (event_of resource rows x.rev) x.changes, all.0.few)
few_events resource rows (x ∷ y ∷ xs) long all = absurd (omega arith)

-- there are at most 64 transitions
pub few_told : (test : Obj → Bool) (peer : Log) (resource : Resource) (e : ℕ) → IsLog peer → length (transitions_by test peer resource e (e + 1)) ≤ 64
few_told test peer resource e is =
    let taken = length-take (e + 1 - peer.first) peer.revisions in
    let dropped = length-drop (e - peer.first) (take (e + 1 - peer.first) peer.revisions) in
    omega (
      arith,
      fewer (transition_by test) (events peer resource e (e + 1)),
      few_events resource (row_at peer resource e) (between peer e (e + 1)) (omega (arith, taken, dropped)) (revisions_between peer e (e + 1) is.revisions),
    )

-- the kind of each fits the shown row that stood before it
module _ (test : Obj → Bool) (rows : Standing) (rev : ℕ) where
  Fits : TransitionData → Type 0
  Fits t = FitsKind t.kind (shown_by test (rows t.obj.key))

  fits_event : (key : List ℕ) (before now : Option RowData) → before ≡ rows key → IfSome before (λ row. key_of row ≡ key) → IfSome now (λ row. key_of row ≡ key)
      → IfSome (transition_by test (record { rev = rev; key = key; before = before; now = now })) Fits
  unfolding Fits
  fits_event key None None at was is = tt
  fits_event key None (Some n) at was is =
      let none : rows n.obj.key ≡ None = ap rows is ∙ sym at in
      elim (cases_Bool (test n.obj)) [ inl now ↦ simp (now, none) refl | inr fails ↦ simp fails tt ]
  fits_event key (Some b) None at was is =
      let there : rows b.obj.key ≡ Some b = ap rows was ∙ sym at in
      elim (cases_Bool (test b.obj)) [ inl before ↦ simp (before, there) refl | inr fails ↦ simp fails tt ]
  fits_event key (Some b) (Some n) at was is =
      let there : rows b.obj.key ≡ Some b = ap rows was ∙ sym at in
      let here : rows n.obj.key ≡ Some b = ap rows is ∙ sym at in
      elim (cases_Bool (test b.obj)) [
        | inl before ↦ elim (cases_Bool (test n.obj)) [ inl now ↦ simp (before, now, here) refl | inr fails ↦ simp (before, fails, there) refl ]
        | inr before ↦ elim (cases_Bool (test n.obj)) [ inl now ↦ simp (before, now, here) refl | inr fails ↦ simp (before, fails) tt ]
      ]

  pub all_fit : (evs : List EventData) → AllByRecursion (IsEventOf rows rev) evs → AllByRecursion (λ t. FitsKind t.kind (shown_by test (rows t.obj.key))) (filter_map (transition_by test) evs)
  unfolding Fits
  all_fit evs are = all_mapped (transition_by test) (IsEventOf rows rev) (λ t. FitsKind t.kind (shown_by test (rows t.obj.key))) one evs are
    where
      one : (event : EventData) → IsEventOf rows rev event → IfSome (transition_by test event) (λ t. FitsKind t.kind (shown_by test (rows t.obj.key)))
      one event is = subst (λ n. IfSome (transition_by test (record { rev = n; key = event.key; before = event.before; now = event.now })) (λ t. FitsKind t.kind (shown_by test (rows t.obj.key))))
          (sym is.number) (fits_event event.key event.before event.now is.before is.before_keyed is.now_keyed)

-- ---- the next event

module _ (peer : Log) (log_floor low b from : ℕ) (ask : WatchAsk) (lines : List Line) (m : Log) (kept : List TransitionData)
    (is : IsLog peer) (follows : Follows peer ask.selection b from lines m kept) (t : TransitionData) (above : end_of m < t.rev)
    (begins : BeginsBody peer log_floor low ask from (lines ++ Told t ∷ [])) where
  kept_numbers : AllByRecursion (λ u. u.rev ≡ end_of m + 1) kept
  kept_numbers = recursion_from_All (λ u. u.rev ≡ end_of m + 1) kept follows.next

  event_behind : AllByRecursion (λ k. transition_cmp k t ≡ Less) kept
  event_behind =
      let stream = event_stream peer log_floor low b from ask lines m kept is follows t above begins in
      let order = transitions_in_order (selects ask.selection) peer ask.selection.resource from stream.0 is in
      let sorted : IsStrictlySortedBy transition_cmp (told_since from lines ++ t ∷ stream.1) = subst (IsStrictlySortedBy transition_cmp) (sym stream.3) order.0 in
      let below : AllByRecursion (λ k. transition_cmp k t ≡ Less) (told_since from lines) = below_at transition_cmp (told_since from lines) t stream.1 sorted in
      last_part (λ k. transition_cmp k t ≡ Less) (transitions peer ask.selection from (end_of m)) kept (subst (AllByRecursion (λ k. transition_cmp k t ≡ Less)) follows.told below)

  event_selected : IsTrue (selects ask.selection t.obj)
  event_selected =
      let stream = event_stream peer log_floor low b from ask lines m kept is follows t above begins in
      let all = recursion_from_All (λ u. IsTrue (selects ask.selection u.obj)) (transitions peer ask.selection from stream.0) (are_selected (selects ask.selection) peer ask.selection.resource from stream.0) in
      (last_part (λ u. IsTrue (selects ask.selection u.obj)) (told_since from lines) (t ∷ stream.1) (subst (AllByRecursion (λ u. IsTrue (selects ask.selection u.obj))) (sym stream.3) all)).0

  -- what is kept of its revision, the event, and what follows at its revision are all that is told of it
  event_revision : (zs : List TransitionData) × (of_revision t.rev kept ++ t ∷ zs ≡ transitions peer ask.selection (t.rev - 1) (t.rev - 1 + 1))
  event_revision =
      let stream = event_stream peer log_floor low b from ask lines m kept is follows t above begins in
      let p : ℕ = stream.0 in
      let first : List TransitionData = transitions peer ask.selection from (end_of m) in
      let at : TransitionData → Bool = λ u. eqb u.rev t.rev in
      let number : t.rev - 1 + 1 ≡ t.rev = omega (arith, above) in
      let from_end = within_end peer log_floor low b from ask lines m kept is follows in
      let reach : (from < t.rev) × (t.rev ≤ p) =
      (last_part (λ u. (from < u.rev) × (u.rev ≤ p)) (told_since from lines) (t ∷ stream.1) (subst (AllByRecursion (λ u. (from < u.rev) × (u.rev ≤ p))) (sym stream.3) (told_number (selects ask.selection) peer ask.selection.resource from p is))).0 in
      let none_first : filter at first ≡ [] = none_kept at first (all_weaker (λ u. (from < u.rev) × (u.rev ≤ end_of m)) (λ u. at u ≡ false)
      (λ u w. ne_eqb u.rev t.rev (λ same. absurd (omega (arith, same, w.1, above)))) first (told_number (selects ask.selection) peer ask.selection.resource from (end_of m) is)) in
      let heard : filter at (told_since from lines) ≡ filter at kept =
      ap (filter at) follows.told ∙ filter-append at first kept ∙ ap (λ (l : List TransitionData). l ++ filter at kept) none_first in
      let here : filter at (t ∷ stream.1) ≡ t ∷ filter at stream.1 = rw (eq-eqb t.rev t.rev refl) refl in
      let one : of_revision (t.rev - 1 + 1) (transitions peer ask.selection from p) ≡ transitions peer ask.selection (t.rev - 1) (t.rev - 1 + 1) =
      of_one (selects ask.selection) peer ask.selection.resource from (t.rev - 1) p is (omega (arith, reach.0)) (omega (arith, reach.1, number)) in (
        filter at stream.1,
        ap (λ (l : List TransitionData). l ++ t ∷ filter at stream.1) (sym heard)
            ∙ ap (λ (l : List TransitionData). filter at (told_since from lines) ++ l) (sym here)
            ∙ sym (filter-append at (told_since from lines) (t ∷ stream.1))
            ∙ ap (filter at) stream.3
            ∙ ap (λ (n : ℕ). of_revision n (transitions peer ask.selection from p)) (sym number)
            ∙ one,
      )

  event_few : length (of_revision t.rev kept ++ t ∷ []) ≤ 64
  event_few =
      let whole = event_revision in
      let few = few_told (selects ask.selection) peer ask.selection.resource (t.rev - 1) is in
      omega (arith, length-append (of_revision t.rev kept) (t ∷ []), length-append (of_revision t.rev kept) (t ∷ whole.0), ap length whole.1, few)

  -- the row before it
  event_row : shown_by (selects ask.selection) (row_at peer ask.selection.resource (t.rev - 1) t.obj.key) ≡ row_before m ask.selection.resource kept t.rev t.obj.key
  event_row =
      let shown : row_at m ask.selection.resource (end_of m) t.obj.key ≡ shown_by (selects ask.selection) (row_at peer ask.selection.resource (end_of m) t.obj.key) =
      stands (selects ask.selection) peer ask.selection.resource b m follows.mirrors (end_of m) t.obj.key (omega (arith, follows.begun, within_end peer log_floor low b from ask lines m kept is follows)) (omega arith) in
      let old : TransitionData → Bool = λ k. ltb k.rev t.rev in
      let row : Option RowData = row_at m ask.selection.resource (end_of m) t.obj.key in
      elim (cases_lt (end_of m + 1) t.rev) [
        | inl later ↦
            let all : filter old kept ≡ kept = all_kept old kept (all_weaker (λ u. u.rev ≡ end_of m + 1) (λ u. old u ≡ true) (λ u number. lt-ltb u.rev t.rev (omega (arith, number, later))) kept kept_numbers) in
            let told = (event_told peer log_floor low b from ask lines m kept is follows t later begins).1 in
            let behind : kept ≡ transitions peer ask.selection (end_of m) (t.rev - 1) = told_behind peer log_floor low b from ask lines m kept is follows (t.rev - 1) (omega (arith, later)) told in
            sym (followed (selects ask.selection) peer ask.selection.resource (end_of m) (t.rev - 1) t.obj.key is (omega (arith, later)))
            ∙ ap (λ (r : Option RowData). fold (row_told t.obj.key) r (transitions peer ask.selection (end_of m) (t.rev - 1))) (sym shown)
            ∙ ap (λ (l : List TransitionData). fold (row_told t.obj.key) row l) (sym behind)
            ∙ ap (λ (l : List TransitionData). fold (row_told t.obj.key) row l) (sym all)
        | inr next ↦
            let none : filter old kept ≡ [] = none_kept old kept (all_weaker (λ u. u.rev ≡ end_of m + 1) (λ u. old u ≡ false) (λ u number. le-ltb u.rev t.rev (omega (arith, number, next))) kept kept_numbers) in
            let here : t.rev - 1 ≡ end_of m = omega (arith, next, above) in
            ap (λ (n : ℕ). shown_by (selects ask.selection) (row_at peer ask.selection.resource n t.obj.key)) here
            ∙ sym shown
            ∙ ap (λ (l : List TransitionData). fold (row_told t.obj.key) row l) (sym none)
      ]

  event_fits : FitsKind t.kind (row_before m ask.selection.resource kept t.rev t.obj.key)
  event_fits =
      let rows : Standing = row_at peer ask.selection.resource (t.rev - 1) in
      let whole = event_revision in
      let all = all_fit (selects ask.selection) rows (t.rev - 1 + 1) (events peer ask.selection.resource (t.rev - 1) (t.rev - 1 + 1)) (one_revision peer ask.selection.resource (t.rev - 1) is) in
      let here : FitsKind t.kind (shown_by (selects ask.selection) (rows t.obj.key)) =
      (last_part (λ u. FitsKind u.kind (shown_by (selects ask.selection) (rows u.obj.key))) (of_revision t.rev kept) (t ∷ whole.0)
      (subst (AllByRecursion (λ u. FitsKind u.kind (shown_by (selects ask.selection) (rows u.obj.key)))) (sym whole.1) all)).0 in
      subst (FitsKind t.kind) event_row here

  pub event_taken : IsTakenEvent ask.selection m kept t
  event_taken = record {
    above = above;
    behind = All-from_recursion (λ k. transition_cmp k t ≡ Less) kept event_behind;
    selected = event_selected;
    fits = event_fits;
    few = event_few;
  }

-- ---- the next line

module _ (peer : Log) (log_floor low b from : ℕ) (ask : WatchAsk) (lines : List Line) (m : Log) (kept : List TransitionData)
    (is : IsLog peer) (follows : Follows peer ask.selection b from lines m kept) where
  mark_taken : (at : ℕ) → end_of m ≤ at → BeginsBody peer log_floor low ask from (lines ++ Bookmark at ∷ []) → IsTakenMark m kept at
  mark_taken at onward begins =
      let found = mark_told peer log_floor low b from ask lines m kept is follows at begins in
      let within = told_number (selects ask.selection) peer ask.selection.resource from at is in
      let heard : AllByRecursion (λ u. (from < u.rev) × (u.rev ≤ at)) (transitions peer ask.selection from (end_of m) ++ kept) = subst (AllByRecursion (λ u. (from < u.rev) × (u.rev ≤ at))) (sym found.1 ∙ follows.told) within in
      record {
        onward = onward;
        told = All-from_recursion (λ k. k.rev ≤ at) kept (all_weaker (λ u. (from < u.rev) × (u.rev ≤ at)) (λ k. k.rev ≤ at) (λ k w. w.1) kept
            (last_part (λ u. (from < u.rev) × (u.rev ≤ at)) (transitions peer ask.selection from (end_of m)) kept heard));
      }

  -- the next line is of a revision that is reached
  pub line_reached : (line : Line) → BeginsBody peer log_floor low ask from (lines ++ line ∷ []) → IsNotAbove (end_of peer) line
  line_reached (Told t) begins =
      let tells : TellsBody peer log_floor low ask from (lines ++ Told t ∷ begins.0) begins.1 =
      subst (λ (l : List Line). TellsBody peer log_floor low ask from l begins.1) (append_assoc lines (Told t ∷ []) begins.0) begins.2 in
      let body : Body = tells.body in
      let ts : List TransitionData = transitions peer ask.selection body.at (position_of body) in
      let here = within_end peer log_floor low b from ask lines m kept is follows in
      let between = positions_are_between peer log_floor low ask body tells.lawful in
      let rows : All (λ u. u.rev ≤ end_of peer) (map initial body.rows) = All-map (λ (u : TransitionData). u.rev ≤ end_of peer) initial body.rows
      (All-weaker (λ (row : RowData). row.rev ≤ from) (λ row. row.rev ≤ end_of peer) (λ row old. omega (arith, old, here, follows.mirrors.reached)) body.rows
      (old_rows peer log_floor low b from ask lines m kept is follows (lines ++ Told t ∷ begins.0) begins.1 tells)) in
      let stream : All (λ u. u.rev ≤ end_of peer) ts = All-from_recursion (λ u. u.rev ≤ end_of peer) ts
      (all_weaker (λ u. (body.at < u.rev) × (u.rev ≤ position_of body)) (λ u. u.rev ≤ end_of peer) (λ u w. omega (arith, w.1, between.1, tells.begins, here, follows.mirrors.reached)) ts
      (told_number (selects ask.selection) peer ask.selection.resource body.at (position_of body) is)) in
      let whole : told_in lines ++ t ∷ told_in begins.0 ≡ map initial body.rows ++ ts =
      sym (filter_map-append told_by lines (Told t ∷ begins.0)) ∙ ap told_in tells.lines_are ∙ streams_are_told peer log_floor low ask body tells.lawful in
      (last_part (λ u. u.rev ≤ end_of peer) (told_in lines) (t ∷ told_in begins.0)
      (recursion_from_All (λ u. u.rev ≤ end_of peer) (told_in lines ++ t ∷ told_in begins.0)
      (subst (All (λ u. u.rev ≤ end_of peer)) (sym whole) (All-append (λ u. u.rev ≤ end_of peer) (map initial body.rows) ts rows stream)))).0
  line_reached (Bookmark at) begins = (mark_told peer log_floor low b from ask lines m kept is follows at begins).0
  line_reached (Closing at) begins =
      let tells = begins.2 in
      (closings_tell_the_start peer log_floor low ask tells.body lines begins.0 at tells.lawful (sym tells.lines_are ∙ append_assoc lines (Closing at ∷ []) begins.0)).reached
  line_reached (Lost at floor) begins = tt

  line_taken : (line : Line) → BeginsBody peer log_floor low ask from (lines ++ line ∷ []) → GoesOnward (end_of m) line → IsTaken ask.selection m kept line
  line_taken (Told t) begins onward = event_taken peer log_floor low b from ask lines m kept is follows t onward begins
  line_taken (Bookmark at) begins onward = mark_taken at onward begins
  line_taken (Closing at) begins onward = onward
  line_taken (Lost at floor) begins onward = tt

  line_onward : (line : Line) → IsPastOpening ask lines → BeginsBody peer log_floor low ask from (lines ++ line ∷ []) → GoesOnward (end_of m) line
  line_onward line opened begins =
      let tells : TellsBody peer log_floor low ask from (lines ++ line ∷ begins.0) begins.1 =
      subst (λ (l : List Line). TellsBody peer log_floor low ask from l begins.1) (append_assoc lines (line ∷ []) begins.0) begins.2 in
      let old : All (λ row. row.rev ≤ tells.body.at) tells.body.rows =
      subst (λ (n : ℕ). All (λ (row : RowData). row.rev ≤ n) tells.body.rows) (sym tells.begins) (old_rows peer log_floor low b from ask lines m kept is follows (lines ++ line ∷ begins.0) begins.1 tells) in
      let onward = goes_onward peer log_floor low ask tells.body lines begins.0 line is tells.lawful tells.lines_are old opened in
      subst (λ (n : ℕ). GoesOnward n line) (ap (λ (n : ℕ). upto_in n lines) tells.begins ∙ sym follows.reached) onward

pub lawful_lines_are_taken : LawfulLinesAreTaken
lawful_lines_are_taken peer log_floor low b from s ask lines m kept line is of follows opened begins =
    let here : Follows peer ask.selection b from lines m kept = subst (λ (u : Selection). Follows peer u b from lines m kept) (sym of) follows in
    subst (λ (u : Selection). IsTaken u m kept line) of
    (line_taken peer log_floor low b from ask lines m kept is here line begins (line_onward peer log_floor low b from ask lines m kept is here line opened begins))

pub lines_are_reached : LinesAreReached
lines_are_reached peer log_floor low b from s ask lines m kept line is of follows begins =
    line_reached peer log_floor low b from ask lines m kept is (subst (λ (u : Selection). Follows peer u b from lines m kept) (sym of) follows) line begins

-- ---- the opening

pub openings_are_taken : OpeningsAreTaken
openings_are_taken peer log_floor low b ask rows is from begins =
    let listing : IsListing peer ask.selection b rows = (opening_listed peer log_floor low b ask rows begins).0 in
    let test : RowData → Bool = λ row. selects ask.selection row.obj in
    let state : List RowData = listing.state in (
      (listing_by_key (selects ask.selection) peer ask.selection.resource b rows listing).rising,
      subst (All (λ row. test row ≡ true)) (sym listing.selected) (filter_passes test state),
      subst (All (λ row. row.rev ≤ b)) (sym listing.selected)
          (All-filter test (λ row. row.rev ≤ b) state (rows_are_old peer ask.selection.resource b state is from listing.is_state)),
    )
