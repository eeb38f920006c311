-- What a log tells next, a walk takes.
use Rattle.std.proofs.Common.{◌≡◌, ℕ, ◌+◌, ◌-◌, ◌^◌, ◌<◌, ◌≤◌, Bool, true, false, IsTrue, ltb, eqb, List, [], ◌∷◌, ◌++◌, length, fold, filter_map, Option, Some, None, IfSome, All, Less, refl, sym, ap, ◌∙◌, subst, append_assoc, inl, inr, arith}
use Rattle.std.specs.Prelude.{filter, not, IsSomeAnd}
use Rattle.std.specs.List.{AllByRecursion}
use Rattle.std.proofs.lemmas.Bool.{cases_Bool, cases_lt, lt-ltb, le-ltb, eq-eqb}
use Rattle.std.proofs.lemmas.List.Elements.{filter-append, recursion_from_All}
use Rattle.kube_meta.specs.declared.objects.Obj.{Obj}
use Rattle.kube_meta.specs.Rows.{RowData, key_of}
use Rattle.rev_log.specs.Logs.{Log, IsLog, end_of}
use Rattle.rev_log.specs.States.{row_at}
use Rattle.select_all.specs.declared.selection.Selection.{Selection}
use Rattle.select_all.specs.declared.selection.Kind.{Kind}
use Rattle.select_all.specs.declared.selection.Kind.TheVariants.{Added, Modified, Deleted}
use Rattle.select_all.specs.Selecting.{selects}
use Rattle.select_all.specs.Listings.{shown_by, row_told}
use Rattle.select_all.specs.Streams.{EventData, TransitionData, Standing, events, transition_by, transitions, transitions_by}
use Rattle.select_all.proofs.EventLaws.{all_weaker}
use Rattle.select_all.proofs.OrderLaws.{all_mapped}
use Rattle.watch_rules.specs.declared.ask.WatchAsk.{WatchAsk}
use Rattle.watch_rules.specs.declared.starts.Start.{Start}
use Rattle.watch_rules.specs.declared.starts.Start.TheVariants.{FromRevision}
use Rattle.watch_rules.specs.Starts.{is_from_state}
use Rattle.watch_rules.specs.Bodies.{Line, Told, Bookmark, Closing, Lost, TellsBody, BeginsBody}
use Rattle.watch_rules.proofs.BookmarkLemmas.{bookmarks_tell_all}
use Rattle.mirror_law.specs.Mirrors.{of_revision}
use Rattle.mirror_law.specs.Following.{told_since, kept_after, Follows}
use Rattle.mirror_law.specs.Taking.{IsPastOpening, IsTaken, IsTakenEvent, IsTakenMark, row_before}
use Rattle.mirror_law.proofs.EchoLemmas.{IsEventOf}
use Rattle.mirror_law.proofs.FollowLemmas.{within_end, event_stream, event_told, told_behind}
use Rattle.mirror_law.proofs.LineLemmas.{last_part}
use Rattle.mirror_law.proofs.ListLemmas.{none_kept, all_kept}
use Rattle.mirror_law.proofs.MirrorLemmas.{stands, followed, one_revision, told_number, of_one}
use Rattle.mirror_law.proofs.TakenLemmas.{lawful_lines_are_taken, lines_are_reached}
use Rattle.body_check.specs.Walks.{HasFirst, IsWalked, IsTakenNext, WalksTake, WalksTakeMarks, WalksTakeNoClosing}
use Rattle.body_check.specs.Turns.{FitsRow}
use Rattle.body_check.proofs.WalkLemmas.{begun}

-- ---- what is told of one revision fits the rows before it

module _ (test : Obj → Bool) (rows : Standing) (rev : ℕ) where
  abbrev pub FitsShown : TransitionData → Type 0
  FitsShown t = FitsRow t.kind t.obj (shown_by test (rows t.obj.key))

  fits_event : (key : List ℕ) (before now : Option RowData) → before ≡ rows key → IfSome before (λ row. key_of row ≡ key) → IfSome now (λ row. key_of row ≡ key)
      → IfSome (transition_by test (record { rev = rev; key = key; before = before; now = now })) FitsShown
  fits_event key None None at was is = tt
  fits_event key None (Some n) at was is =
      let none : rows n.obj.key ≡ None = ap rows is ∙ sym at in
      elim (cases_Bool (test n.obj)) [ inl now ↦ simp (now, none) refl | inr fails ↦ simp fails tt ]
  fits_event key (Some b) None at was is =
      let there : rows b.obj.key ≡ Some b = ap rows was ∙ sym at in
      elim (cases_Bool (test b.obj)) [ inl before ↦ simp (before, there) refl | inr fails ↦ simp fails tt ]
  fits_event key (Some b) (Some n) at was is =
      let there : rows b.obj.key ≡ Some b = ap rows was ∙ sym at in
      let here : rows n.obj.key ≡ Some b = ap rows is ∙ sym at in
      elim (cases_Bool (test b.obj)) [
        | inl before ↦ elim (cases_Bool (test n.obj)) [ inl now ↦ simp (before, now, here) tt | inr fails ↦ simp (before, fails, there) refl ]
        | inr before ↦ elim (cases_Bool (test n.obj)) [ inl now ↦ simp (before, now, here) refl | inr fails ↦ simp (before, fails) tt ]
      ]

  pub all_fit : (evs : List EventData) → AllByRecursion (IsEventOf rows rev) evs → AllByRecursion (λ t. FitsRow t.kind t.obj (shown_by test (rows t.obj.key))) (filter_map (transition_by test) evs)
  all_fit evs are = all_mapped (transition_by test) (IsEventOf rows rev) (λ t. FitsRow t.kind t.obj (shown_by test (rows t.obj.key))) one evs are
    where
      one : (event : EventData) → IsEventOf rows rev event → IfSome (transition_by test event) (λ t. FitsRow t.kind t.obj (shown_by test (rows t.obj.key)))
      one event is = subst (λ n. IfSome (transition_by test (record { rev = n; key = event.key; before = event.before; now = event.now })) (λ t. FitsRow t.kind t.obj (shown_by test (rows t.obj.key))))
          (sym is.number) (fits_event event.key event.before event.now is.before is.before_keyed is.now_keyed)

-- ---- the next event

module _ (peer : Log) (log_floor low b from : ℕ) (ask : WatchAsk) (lines : List Line) (m : Log) (kept : List TransitionData)
    (is : IsLog peer) (follows : Follows peer ask.selection b from lines m kept) (t : TransitionData) (above : end_of m < t.rev)
    (begins : BeginsBody peer log_floor low ask from (lines ++ Told t ∷ [])) where
  -- it is among what is told of its revision
  fits_before : FitsRow t.kind t.obj (shown_by (selects ask.selection) (row_at peer ask.selection.resource (t.rev - 1) t.obj.key))
  fits_before =
      let stream = event_stream peer log_floor low b from ask lines m kept is follows t above begins in
      let p : ℕ = stream.0 in
      let rows : Standing = row_at peer ask.selection.resource (t.rev - 1) in
      let number : t.rev - 1 + 1 ≡ t.rev = omega (arith, above) in
      let at : TransitionData → Bool = λ u. eqb u.rev (t.rev - 1 + 1) in
      let from_end = within_end peer log_floor low b from ask lines m kept is follows in
      let reach : (from < t.rev) × (t.rev ≤ p) =
      (last_part (λ u. (from < u.rev) × (u.rev ≤ p)) (told_since from lines) (t ∷ stream.1) (subst (AllByRecursion (λ u. (from < u.rev) × (u.rev ≤ p))) (sym stream.3) (told_number (selects ask.selection) peer ask.selection.resource from p is))).0 in
      let one : of_revision (t.rev - 1 + 1) (transitions peer ask.selection from p) ≡ transitions peer ask.selection (t.rev - 1) (t.rev - 1 + 1) =
      of_one (selects ask.selection) peer ask.selection.resource from (t.rev - 1) p is (omega (arith, reach.0)) (omega (arith, reach.1, number)) in
      let here : filter at (t ∷ stream.1) ≡ t ∷ filter at stream.1 = rw (eq-eqb t.rev (t.rev - 1 + 1) (sym number)) refl in
      let parts : filter at (told_since from lines) ++ t ∷ filter at stream.1 ≡ transitions peer ask.selection (t.rev - 1) (t.rev - 1 + 1) =
      ap (λ (l : List TransitionData). filter at (told_since from lines) ++ l) (sym here)
      ∙ sym (filter-append at (told_since from lines) (t ∷ stream.1))
      ∙ ap (filter at) stream.3
      ∙ one in
      let all = all_fit (selects ask.selection) rows (t.rev - 1 + 1) (events peer ask.selection.resource (t.rev - 1) (t.rev - 1 + 1)) (one_revision peer ask.selection.resource (t.rev - 1) is) in
      (last_part (λ u. FitsRow u.kind u.obj (shown_by (selects ask.selection) (rows u.obj.key))) (filter at (told_since from lines)) (t ∷ filter at stream.1)
      (subst (AllByRecursion (λ u. FitsRow u.kind u.obj (shown_by (selects ask.selection) (rows u.obj.key)))) (sym parts) all)).0

  -- the row before it
  row_is : shown_by (selects ask.selection) (row_at peer ask.selection.resource (t.rev - 1) t.obj.key) ≡ row_before m ask.selection.resource kept t.rev t.obj.key
  row_is =
      let numbers : AllByRecursion (λ u. u.rev ≡ end_of m + 1) kept = recursion_from_All (λ u. u.rev ≡ end_of m + 1) kept follows.next in
      let shown : row_at m ask.selection.resource (end_of m) t.obj.key ≡ shown_by (selects ask.selection) (row_at peer ask.selection.resource (end_of m) t.obj.key) =
      stands (selects ask.selection) peer ask.selection.resource b m follows.mirrors (end_of m) t.obj.key (omega (arith, follows.begun, within_end peer log_floor low b from ask lines m kept is follows)) (omega arith) in
      let old : TransitionData → Bool = λ k. ltb k.rev t.rev in
      let row : Option RowData = row_at m ask.selection.resource (end_of m) t.obj.key in
      elim (cases_lt (end_of m + 1) t.rev) [
        | inl later ↦
            let all : filter old kept ≡ kept = all_kept old kept (all_weaker (λ u. u.rev ≡ end_of m + 1) (λ u. old u ≡ true) (λ u number. lt-ltb u.rev t.rev (omega (arith, number, later))) kept numbers) in
            let told = (event_told peer log_floor low b from ask lines m kept is follows t later begins).1 in
            let behind : kept ≡ transitions peer ask.selection (end_of m) (t.rev - 1) = told_behind peer log_floor low b from ask lines m kept is follows (t.rev - 1) (omega (arith, later)) told in
            sym (followed (selects ask.selection) peer ask.selection.resource (end_of m) (t.rev - 1) t.obj.key is (omega (arith, later)))
            ∙ ap (λ (r : Option RowData). fold (row_told t.obj.key) r (transitions peer ask.selection (end_of m) (t.rev - 1))) (sym shown)
            ∙ ap (λ (l : List TransitionData). fold (row_told t.obj.key) row l) (sym behind)
            ∙ ap (λ (l : List TransitionData). fold (row_told t.obj.key) row l) (sym all)
        | inr next ↦
            let none : filter old kept ≡ [] = none_kept old kept (all_weaker (λ u. u.rev ≡ end_of m + 1) (λ u. old u ≡ false) (λ u number. le-ltb u.rev t.rev (omega (arith, number, next))) kept numbers) in
            let here : t.rev - 1 ≡ end_of m = omega (arith, next, above) in
            ap (λ (n : ℕ). shown_by (selects ask.selection) (row_at peer ask.selection.resource n t.obj.key)) here
            ∙ sym shown
            ∙ ap (λ (l : List TransitionData). fold (row_told t.obj.key) row l) (sym none)
      ]

  pub fits_row : FitsRow t.kind t.obj (row_before m ask.selection.resource kept t.rev t.obj.key)
  fits_row = subst (FitsRow t.kind t.obj) row_is fits_before

-- ---- the next line

past_opening : (ask : WatchAsk) (from : ℕ) (lines : List Line) → ask.start ≡ FromRevision from → IsPastOpening ask lines
past_opening ask from lines start = rw start refl

pub walks_take : WalksTake
walks_take ask from rows lines m kept t peer log_floor low start walked first begins =
    let follows : Follows peer ask.selection from from lines m kept = walked.peers peer log_floor low first (begun peer log_floor low ask from lines (Told t) begins) in
    let taken : IsTakenEvent ask.selection m kept t = lawful_lines_are_taken peer log_floor low from from ask.selection ask lines m kept (Told t) first.is refl follows (past_opening ask from lines start) begins in
    let reached : t.rev ≤ end_of peer = lines_are_reached peer log_floor low from from ask.selection ask lines m kept (Told t) first.is refl follows begins in
    record {
      above = taken.above;
      behind = taken.behind;
      selected = taken.selected;
      fits = fits_row peer log_floor low from from ask lines m kept first.is follows t taken.above begins;
      few = taken.few;
      within = omega (arith, reached, first.is.ends);
    }

pub walks_take_marks : WalksTakeMarks
walks_take_marks ask from rows lines m kept at peer log_floor low start walked first begins =
    let follows : Follows peer ask.selection from from lines m kept = walked.peers peer log_floor low first (begun peer log_floor low ask from lines (Bookmark at) begins) in
    let reached : at ≤ end_of peer = lines_are_reached peer log_floor low from from ask.selection ask lines m kept (Bookmark at) first.is refl follows begins in
    let tells : TellsBody peer log_floor low ask from (lines ++ Bookmark at ∷ begins.0) begins.1 =
    subst (λ (l : List Line). TellsBody peer log_floor low ask from l begins.1) (append_assoc lines (Bookmark at ∷ []) begins.0) begins.2 in
    let all = bookmarks_tell_all peer log_floor low ask tells.body lines begins.0 at tells.lawful (sym tells.lines_are) in (
      lawful_lines_are_taken peer log_floor low from from ask.selection ask lines m kept (Bookmark at) first.is refl follows (past_opening ask from lines start) begins,
      all.wanted,
      omega (arith, reached, first.is.ends),
    )

pub walks_take_no_closing : WalksTakeNoClosing
walks_take_no_closing ask from rows lines m kept at peer log_floor low start walked first begins =
    let follows : Follows peer ask.selection from from lines m kept = walked.peers peer log_floor low first (begun peer log_floor low ask from lines (Closing at) begins) in
    lawful_lines_are_taken peer log_floor low from from ask.selection ask lines m kept (Closing at) first.is refl follows (past_opening ask from lines start) begins
