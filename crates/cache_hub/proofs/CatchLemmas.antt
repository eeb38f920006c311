-- The lines that a watcher is told which catches up: taken event by event, and what they are of the log.
use Rattle.std.proofs.Common.{◌≡◌, ◌≢◌, ◌⊎◌, inl, inr, ℕ, zero, suc, ◌+◌, ◌-◌, ◌<◌, ◌≤◌, max, Bool, true, false, ◌&&◌, nat_le, nat_lt, is_some, map, take, drop, get_or, Option, None, Some, IfSome, option_map, filter, filter_map, List, [], ◌∷◌, ◌++◌, append-nil, append_assoc, length, refl, sym, ap, ◌∙◌, subst, arith}
use Rattle.std.specs.List.{AllByRecursion, cons_option}
use Rattle.std.specs.Prelude.{option_and_then}
use Rattle.std.proofs.lemmas.Bool.{cases_lt, leb-true, leb-false, ltb-true, ltb-false}
use Rattle.std.proofs.lemmas.List.{append_cancel_left, length-append}
use Rattle.std.proofs.lemmas.List.Elements.{All-nil, All-from_recursion, recursion_from_All}
use Rattle.kube_meta.specs.declared.objects.Obj.{Obj}
use Rattle.rev_log.specs.Changes.{RevisionData}
use Rattle.rev_log.specs.Logs.{Log, AreNumbered, between}
use Rattle.rev_log.specs.States.{row_at, row_next}
use Rattle.kube_meta.specs.declared.resources.Resource.{Resource}
use Rattle.cache_core.specs.Caches.{held_event, held_events}
use Rattle.select_all.specs.declared.selection.Selection.{Selection}
use Rattle.select_all.specs.declared.selection.Kind.{Kind}
use Rattle.select_all.specs.Selecting.{selects, holds_by, kind_of_change}
use Rattle.select_all.specs.Streams.{EventData, TransitionData, Standing, events, events_in, events_from, object_of, told_object, transition_by, transitions}
use Rattle.select_all.proofs.EventLaws.{all_append, all_weaker, are_within, numbered_in, numbered-between}
use Rattle.select_all.proofs.OrderLaws.{all_mapped}
use Rattle.select_all.proofs.StreamLaws.{no_transitions, transitions_are_joined}
use Rattle.cache_hub.specs.Catching.{CaughtData, AreFewest, EndsWith, AreFirst, IsCaught}
use Rattle.std.proofs.lemmas.List.{at_drop_more, take-append-drop}
use Rattle.std.proofs.lemmas.List.Elements.{filter_map-append}
use Rattle.std.proofs.Math.Seq.{take-suc}
use Rattle.std.proofs.lemmas.Option.{IfSome_then}
use Rattle.rev_log.proofs.MapLemmas.{take_all}
use Rattle.event_ring.specs.Events.{EventRows}
use Rattle.cache_hub.specs.Catching.{AreInOrder, AreRisingFrom, ends_before, taken}
use Rattle.cache_hub.specs.Due.{event_data, transition_of}
use Rattle.cache_hub.proofs.WaitingLemmas.{by_test}

-- of what all of a list is, what stands in its midst is too
at_seam : (P : TransitionData → Type 0) (before : List TransitionData) (t : TransitionData) (behind : List TransitionData) →
    AllByRecursion P (before ++ t ∷ behind) → P t
at_seam P [] t behind all = all.0
at_seam P (x ∷ before) t behind all = at_seam P before t behind all.1

module _ (many at : ℕ) where
  -- the lines that were taken so far, up to the revision of the last one
  pub record IsTaking (done : List TransitionData) (caught : CaughtData) : Type 0 where
    pub lines : caught.lines ≡ done
    pub fewest : AreFewest many caught.lines
    pub place : ((caught.lines ≡ []) × (caught.upto ≡ at)) ⊎ EndsWith caught.lines caught.upto
    pub up : AllByRecursion (λ t. t.rev ≤ caught.upto) caught.lines

  some_place : (caught : CaughtData) → 0 < length caught.lines → ((caught.lines ≡ []) × (caught.upto ≡ at)) ⊎ EndsWith caught.lines caught.upto → EndsWith caught.lines caught.upto
  some_place caught some (inl none) = absurd (omega (arith, some, ap length none.0))
  some_place caught some (inr ends) = ends

  -- lines of one revision at the end of all are of the revision of the last line
  ends_at : (rev : ℕ) (before last front : List TransitionData) (line : TransitionData) → before ++ last ≡ front ++ line ∷ [] → length before ≤ length front →
      AllByRecursion (λ t. t.rev ≡ rev) last → line.rev ≡ rev
  ends_at rev [] last front line same fewer all = at_seam (λ t. t.rev ≡ rev) front line [] (subst (AllByRecursion (λ t. t.rev ≡ rev)) same all)
  ends_at rev (x ∷ before) last [] line same fewer all = absurd (omega (arith, fewer))
  ends_at rev (x ∷ before) last (y ∷ front) line same fewer all =
      let more : before ++ last ≡ front ++ line ∷ [] = cc in
      ends_at rev before last front line more (omega (arith, fewer)) all

  -- a line behind those that were taken: it begins a revision where lines are wanted, and else it is of the last one's
  pub line_taken : (done : List TransitionData) (caught : CaughtData) (line : TransitionData) → 1 ≤ many → IsTaking done caught → caught.upto ≤ line.rev →
      (length caught.lines < many) ⊎ (line.rev ≤ caught.upto) → IsTaking (done ++ line ∷ []) (record { upto = line.rev; lines = caught.lines ++ line ∷ [] })
  line_taken done caught line some taking onward room = record {
    lines = ap (λ xs. xs ++ line ∷ []) taking.lines;
    fewest = by (cases_lt (length caught.lines) many) room;
    place = inr (record { before = caught.lines; line = line; are = refl; is = refl });
    up = all_append (λ t. t.rev ≤ line.rev) caught.lines (line ∷ [])
        (all_weaker (λ t. t.rev ≤ caught.upto) (λ t. t.rev ≤ line.rev) (λ t below. omega (arith, below, onward)) caught.lines taking.up) (omega arith, tt);
  }
    where
      by : (length caught.lines < many) ⊎ (many ≤ length caught.lines) → (length caught.lines < many) ⊎ (line.rev ≤ caught.upto) →
          AreFewest many (caught.lines ++ line ∷ [])
      by (inl few) wanted = record {
        before = caught.lines;
        last = line ∷ [];
        are = refl;
        fewer = few;
        rev = line.rev;
        one_revision = All-from_recursion (λ (t : TransitionData). t.rev ≡ line.rev) (line ∷ []) (refl, tt);
      }
      by (inr full) (inl few) = absurd (omega (arith, full, few))
      by (inr full) (inr same) =
          let few = taking.fewest in
          let ends = some_place caught (omega (arith, some, full)) taking.place in
          let all = recursion_from_All (λ (t : TransitionData). t.rev ≡ few.rev) few.last few.one_revision in
          let is = ends_at few.rev few.before few.last ends.before ends.line (sym few.are ∙ ends.are)
          (omega (arith, full, few.fewer, ap length ends.are, length-append ends.before (ends.line ∷ []))) all in
          record {
            before = few.before;
            last = few.last ++ line ∷ [];
            are = ap (λ xs. xs ++ line ∷ []) few.are ∙ append_assoc few.before few.last (line ∷ []);
            fewer = few.fewer;
            rev = few.rev;
            one_revision = All-from_recursion (λ (t : TransitionData). t.rev ≡ few.rev) (few.last ++ line ∷ [])
                (all_append (λ t. t.rev ≡ few.rev) few.last (line ∷ []) all (omega (arith, same, onward, is, ends.is), tt));
          }

  pub taking_ends : (all : ℕ) (caught : CaughtData) (lines : List TransitionData) → IsTaking lines caught → AllByRecursion (λ t. t.rev ≤ all) lines →
      AreFirst many all lines (record { upto = all; lines = caught.lines })
  taking_ends all caught lines taking up = record {
    left = [];
    split = sym taking.lines ∙ sym (append-nil caught.lines);
    up = All-from_recursion (λ (t : TransitionData). t.rev ≤ all) caught.lines (subst (AllByRecursion (λ t. t.rev ≤ all)) (sym taking.lines) up);
    above = All-from_recursion (λ (t : TransitionData). all < t.rev) [] tt;
    fewest = taking.fewest;
    stops = inl (refl, refl);
  }

  pub taking_stops : (all : ℕ) (done left : List TransitionData) (caught : CaughtData) → 1 ≤ many → IsTaking done caught → many ≤ length caught.lines → left ≢ [] →
      AllByRecursion (λ t. caught.upto < t.rev) left → AreFirst many all (done ++ left) caught
  taking_stops all done left caught some taking full more above = record {
    left = left;
    split = ap (λ xs. xs ++ left) (sym taking.lines);
    up = All-from_recursion (λ (t : TransitionData). t.rev ≤ caught.upto) caught.lines taking.up;
    above = All-from_recursion (λ (t : TransitionData). caught.upto < t.rev) left above;
    fewest = taking.fewest;
    stops = inr (full, some_place caught (omega (arith, some, full)) taking.place, more);
  }

-- ---- what they are of the log

-- of lines up to a number, and others above it, a filter finds the first ones
lower_lines : (u : ℕ) (xs ys : List TransitionData) → AllByRecursion (λ t. t.rev ≤ u) xs → AllByRecursion (λ t. u < t.rev) ys →
    filter (λ t. nat_le t.rev u) (xs ++ ys) ≡ xs
lower_lines u [] [] up above = refl
lower_lines u [] (y ∷ ys) up above = grind (arith, above.0, lower_lines u [] ys tt above.1)
lower_lines u (x ∷ xs) ys up above = grind (arith, up.0, lower_lines u xs ys up.1 above)

-- so a list is cut at a number in one way
cut_once : (u : ℕ) (xs ys us vs : List TransitionData) → xs ++ ys ≡ us ++ vs → AllByRecursion (λ t. t.rev ≤ u) xs → AllByRecursion (λ t. u < t.rev) ys →
    AllByRecursion (λ t. t.rev ≤ u) us → AllByRecursion (λ t. u < t.rev) vs → (xs ≡ us) × (ys ≡ vs)
cut_once u xs ys us vs e up above up' above' =
    let same : xs ≡ us = sym (lower_lines u xs ys up above) ∙ ap (filter (λ t. nat_le t.rev u)) e ∙ lower_lines u us vs up' above' in
    (same, append_cancel_left us ys vs (ap (λ zs. zs ++ ys) (sym same) ∙ e))

-- a line has the revision of its event
line_rev : (test : Obj → Bool) (e : EventData) → IfSome (transition_by test e) (λ t. t.rev ≡ e.rev)
line_rev test e = by_kind (kind_of_change (holds_by test (object_of e.before)) (holds_by test (object_of e.now)))
  where
    by_object : (kind : Kind) (obj : Option Obj) →
        IfSome (option_map (λ o. record { kind = kind; obj = o; rev = e.rev }) obj) (λ (t : TransitionData). t.rev ≡ e.rev)
    by_object kind None = tt
    by_object kind (Some obj) = refl

    by_kind : (kind : Option Kind) →
        IfSome (option_and_then (λ kind. option_map (λ obj. record { kind = kind; obj = obj; rev = e.rev }) (told_object kind e)) kind)
        (λ (t : TransitionData). t.rev ≡ e.rev)
    by_kind None = tt
    by_kind (Some kind) = by_object kind (told_object kind e)

-- so what the revisions of events are, those of their lines are too
lines_of : {X : Type 0} (event : X → EventData) (test : Obj → Bool) (P : ℕ → Type 0) (xs : List X) → AllByRecursion (λ x. P (event x).rev) xs →
    AllByRecursion (λ t. P t.rev) (filter_map (λ x. transition_by test (event x)) xs)
lines_of event test P = all_mapped (λ x. transition_by test (event x)) (λ x. P (event x).rev) (λ t. P t.rev)
    (λ x here. IfSome_then (transition_by test (event x)) (line_rev test (event x)) (λ t same. subst P (sym same) here))

lines_within : (log : Log) (s : Selection) (a b : ℕ) → AreNumbered log.first log.revisions →
    AllByRecursion (λ t. (a < t.rev) × (t.rev ≤ b)) (transitions log s a b)
lines_within log s a b numbered = lines_of (λ e. e) (selects s) (λ n. (a < n) × (n ≤ b)) (events log s.resource a b) (are_within log s.resource numbered a b)

-- where all that is left was told
all_told : (log : Log) (s : Selection) (at end : ℕ) → transitions log s at (max at end) ≡ transitions log s at end
all_told log s at end = elim (cases_lt end at) [
  | inl above ↦
      no_transitions (selects s) log s.resource at (max at end) (omega (arith, above))
      ∙ sym (no_transitions (selects s) log s.resource at end (omega (arith, above)))
  | inr below ↦ ap (transitions log s at) (omega (arith, below))
]

pub caught_is : (log : Log) (s : Selection) (at end many : ℕ) (caught : CaughtData) → AreNumbered log.first log.revisions →
    AreFirst many (max at end) (transitions log s at end) caught → IsCaught log s at end many caught
caught_is log s at end many caught numbered first = by first.stops
  where
    by : ((first.left ≡ []) × (caught.upto ≡ max at end)) ⊎ ((many ≤ length caught.lines) × EndsWith caught.lines caught.upto × (first.left ≢ [])) → IsCaught log s at end many caught
    by (inl told) = record {
      exact = sym (first.split ∙ ap (λ xs. caught.lines ++ xs) told.0 ∙ append-nil caught.lines) ∙ sym (ap (transitions log s at) told.1 ∙ all_told log s at end);
      fewest = first.fewest;
      stops = inl told.1;
    }
    by (inr some) =
        let ends = some.1 in
        let split : transitions log s at end ≡ ends.before ++ ends.line ∷ first.left =
        first.split ∙ ap (λ xs. xs ++ first.left) ends.are ∙ append_assoc ends.before (ends.line ∷ []) first.left in
        let last = at_seam (λ t. (at < t.rev) × (t.rev ≤ end)) ends.before ends.line first.left
        (subst (AllByRecursion (λ t. (at < t.rev) × (t.rev ≤ end))) split (lines_within log s at end numbered)) in
        let low : at ≤ caught.upto = omega (arith, last.0, ends.is) in
        let high : caught.upto ≤ end = omega (arith, last.1, ends.is) in
        let cut = cut_once caught.upto caught.lines first.left (transitions log s at caught.upto) (transitions log s caught.upto end)
        (sym first.split ∙ sym (transitions_are_joined (selects s) log s.resource at caught.upto end low high))
        (recursion_from_All (λ (t : TransitionData). t.rev ≤ caught.upto) caught.lines first.up)
        (recursion_from_All (λ (t : TransitionData). caught.upto < t.rev) first.left first.above)
        (all_weaker (λ t. (at < t.rev) × (t.rev ≤ caught.upto)) (λ t. t.rev ≤ caught.upto) (λ t both. both.1) (transitions log s at caught.upto)
        (lines_within log s at caught.upto numbered))
        (all_weaker (λ t. (caught.upto < t.rev) × (t.rev ≤ end)) (λ t. caught.upto < t.rev) (λ t both. both.0) (transitions log s caught.upto end)
        (lines_within log s caught.upto end numbered)) in
        record {
          exact = cut.0;
          fewest = first.fewest;
          stops = inr (some.0, ends, high, λ none. some.2 (cut.1 ∙ none));
        }

-- ---- event by event

rising_all : (low : ℕ) (es : List EventRows) → AreRisingFrom low es → AllByRecursion (λ e. low ≤ e.rev) es
rising_all low [] rising = tt
rising_all low (e ∷ es) rising =
    (rising.0, all_weaker (λ (x : EventRows). e.rev ≤ x.rev) (λ x. low ≤ x.rev) (λ x below. omega (arith, below, rising.0)) es (rising_all e.rev es rising.1))

ahead_at : (low : ℕ) (es : List EventRows) (i : ℕ) (event : EventRows) (rest : List EventRows) → AreRisingFrom low es → drop i es ≡ event ∷ rest → AreRisingFrom event.rev rest
ahead_at low [] zero event rest rising is = absurd (cc)
ahead_at low [] (suc i) event rest rising is = absurd (cc)
ahead_at low (e ∷ es) zero event rest rising is =
    let first : e ≡ event = cc in
    let more : es ≡ rest = cc in
    subst (λ (x : EventRows). AreRisingFrom x.rev rest) first (subst (AreRisingFrom e.rev) more rising.1)
ahead_at low (e ∷ es) (suc i) event rest rising is = ahead_at e.rev es i event rest rising.1 is

module _ (many at : ℕ) (s : Selection) where
  -- of the events the first i were looked at
  pub record IsCatching (events : List EventRows) (i : ℕ) (caught : CaughtData) : Type 0 where
    pub taking : IsTaking many at (filter_map (transition_of s) (take i events)) caught
    pub ahead : AllByRecursion (λ e. caught.upto ≤ e.rev) (drop i events)

  next_lines : (events : List EventRows) (i : ℕ) (event : EventRows) → i < length events → event ≡ get_or events i event →
      filter_map (transition_of s) (take (i + 1) events) ≡ filter_map (transition_of s) (take i events) ++ cons_option (transition_of s event) []
  next_lines events i event within is =
      let next : i + 1 ≡ suc i = omega arith in
      ap (filter_map (transition_of s)) (ap (λ n. take n events) next ∙ take-suc events i event within ∙ ap (λ e. take i events ++ e ∷ []) (sym is))
      ∙ filter_map-append (transition_of s) (take i events) (event ∷ [])

  not_full : (n : ℕ) (caught : CaughtData) (rev : ℕ) (one : Bool) → one ≡ true → (nat_le many n && (nat_lt caught.upto rev && one)) ≡ false → (n < many) ⊎ (rev ≤ caught.upto)
  not_full n caught rev one is goes = by_test (nat_le many n)
      (λ full. inr (ltb-false caught.upto rev (by_test (nat_lt caught.upto rev)
      (λ later. let all : (nat_le many n && (nat_lt caught.upto rev && one)) ≡ true = rw full (rw later is) in absurd (cc)) (λ h. h))))
      (λ few. inl (leb-false many n few))

  -- an event, and those behind it, which aren't of earlier revisions
  cut_at : (events : List EventRows) (i : ℕ) (event : EventRows) → i < length events → event ≡ get_or events i event →
      drop i events ≡ event ∷ drop (i + 1) events
  cut_at events i event within is = at_drop_more (λ xs. xs) events i event within ∙ ap (λ e. e ∷ drop (i + 1) events) (sym is)

  behind_at : (all : ℕ) (events : List EventRows) (i : ℕ) (event : EventRows) → AreInOrder at all events → drop i events ≡ event ∷ drop (i + 1) events →
      AllByRecursion (λ e. event.rev ≤ e.rev) (drop (i + 1) events)
  behind_at all events i event order cut = rising_all event.rev (drop (i + 1) events) (ahead_at at events i event (drop (i + 1) events) order.rising cut)

  pub catching_goes_on : (all : ℕ) (events : List EventRows) (i : ℕ) (event : EventRows) (caught later : CaughtData) → 1 ≤ many → AreInOrder at all events → i < length events → event ≡ get_or events i event →
      IsCatching events i caught → ends_before s many caught event ≡ false → later ≡ taken caught event.rev (transition_of s event) → IsCatching events (i + 1) later
  catching_goes_on all events i event caught later some order within is catching goes later_is =
      subst (IsCatching events (i + 1)) (sym later_is) (by (transition_of s event) refl)
    where
      here : (caught.upto ≤ event.rev) × AllByRecursion (λ e. caught.upto ≤ e.rev) (drop (i + 1) events)
      here = subst (AllByRecursion (λ e. caught.upto ≤ e.rev)) (cut_at events i event within is) catching.ahead

      so_far : (o : Option TransitionData) → transition_of s event ≡ o → filter_map (transition_of s) (take (i + 1) events) ≡ filter_map (transition_of s) (take i events) ++ cons_option o []
      so_far o told = next_lines events i event within is ∙ ap (λ x. filter_map (transition_of s) (take i events) ++ cons_option x []) told

      by : (o : Option TransitionData) → transition_of s event ≡ o → IsCatching events (i + 1) (taken caught event.rev o)
      by None told = record {
        taking = subst (λ d. IsTaking many at d caught) (sym (so_far None told ∙ append-nil (filter_map (transition_of s) (take i events)))) catching.taking;
        ahead = here.1;
      }
      by (Some line) told =
          let same : line.rev ≡ event.rev =
          subst (λ (o : Option TransitionData). IfSome o (λ t. t.rev ≡ event.rev)) told (line_rev (selects s) (event_data event)) in
          let room = not_full (length caught.lines) caught event.rev (is_some (transition_of s event)) (ap (λ (o : Option TransitionData). is_some o) told) goes in
          record {
            taking = subst (λ n. IsTaking many at (filter_map (transition_of s) (take (i + 1) events)) (record { upto = n; lines = caught.lines ++ line ∷ [] })) same
                (subst (λ d. IsTaking many at d (record { upto = line.rev; lines = caught.lines ++ line ∷ [] })) (sym (so_far (Some line) told))
                (line_taken many at (filter_map (transition_of s) (take i events)) caught line some catching.taking (omega (arith, here.0, same))
                (subst (λ n. (length caught.lines < many) ⊎ (n ≤ caught.upto)) (sym same) room)));
            ahead = behind_at all events i event order (cut_at events i event within is);
          }

  -- the lines of the events that are left
  rest_lines : (events : List EventRows) (i : ℕ) → filter_map (transition_of s) (take i events) ++ filter_map (transition_of s) (drop i events) ≡ filter_map (transition_of s) events
  rest_lines events i = sym (filter_map-append (transition_of s) (take i events) (drop i events)) ∙ ap (filter_map (transition_of s)) (take-append-drop i events)

  pub catching_stops : (all : ℕ) (events : List EventRows) (i : ℕ) (event : EventRows) (caught : CaughtData) → 1 ≤ many → AreInOrder at all events → i < length events → event ≡ get_or events i event →
      IsCatching events i caught → ends_before s many caught event ≡ true → AreFirst many all (filter_map (transition_of s) events) caught
  catching_stops all events i event caught some order within is catching ends =
      subst (λ ts. AreFirst many all ts caught) (rest_lines events i)
      (taking_stops many at all (filter_map (transition_of s) (take i events)) (filter_map (transition_of s) (drop i events)) caught some catching.taking full left_some left_above)
    where
      split : (a b c : Bool) → (a && (b && c)) ≡ true → (a ≡ true) × (b ≡ true) × (c ≡ true)
      split true true true e = (refl, refl, refl)
      split true true false e = absurd (cc)
      split true false c e = absurd (cc)
      split false b c e = absurd (cc)

      parts : (nat_le many (length caught.lines) ≡ true) × (nat_lt caught.upto event.rev ≡ true) × (is_some (transition_of s event) ≡ true)
      parts = split (nat_le many (length caught.lines)) (nat_lt caught.upto event.rev) (is_some (transition_of s event)) ends

      full : many ≤ length caught.lines
      full = leb-true many (length caught.lines) parts.0

      cut : drop i events ≡ event ∷ drop (i + 1) events
      cut = cut_at events i event within is

      left_above : AllByRecursion (λ t. caught.upto < t.rev) (filter_map (transition_of s) (drop i events))
      left_above =
          lines_of event_data (selects s) (λ n. caught.upto < n) (drop i events)
          (all_weaker (λ (e : EventRows). event.rev ≤ e.rev) (λ e. caught.upto < e.rev)
          (λ e le. omega (arith, le, ltb-true caught.upto event.rev parts.1)) (drop i events)
          (subst (AllByRecursion (λ e. event.rev ≤ e.rev)) (sym cut) (omega arith, behind_at all events i event order cut)))

      left_some : filter_map (transition_of s) (drop i events) ≢ []
      left_some none = none_left (transition_of s event) parts.2 (sym (ap (filter_map (transition_of s)) cut) ∙ none)
        where
          none_left : (o : Option TransitionData) → is_some o ≡ true → cons_option o (filter_map (transition_of s) (drop (i + 1) events)) ≡ [] → ⊥
          none_left None e h = absurd (cc)
          none_left (Some t) e h = absurd (cc)

  pub catching_ends : (all : ℕ) (events : List EventRows) (i : ℕ) (caught : CaughtData) → AreInOrder at all events → length events ≤ i → IsCatching events i caught →
      AreFirst many all (filter_map (transition_of s) events) (record { upto = all; lines = caught.lines })
  catching_ends all events i caught order done catching =
      taking_ends many at all caught (filter_map (transition_of s) events)
      (subst (λ xs. IsTaking many at (filter_map (transition_of s) xs) caught) (take_all events i done) catching.taking)
      (lines_of event_data (selects s) (λ n. n ≤ all) events
      (all_weaker (λ (e : EventRows). (at < e.rev) × (e.rev ≤ all)) (λ e. e.rev ≤ all) (λ e both. both.1) events order.within))

-- ---- the events of a log are in order

abbrev EventsRise : ℕ → List EventData → Type 0
EventsRise low [] = Unit {0}
EventsRise low (e ∷ es) = (low ≤ e.rev) × EventsRise e.rev es

-- events of one revision, and then those of later ones
rise_on : (rev low : ℕ) (xs ys : List EventData) → low ≤ rev → AllByRecursion (λ e. e.rev ≡ rev) xs → EventsRise rev ys → EventsRise low (xs ++ ys)
rise_on rev low [] ys below same rising = lower low rev ys below rising
  where
    lower : (low rev : ℕ) (ys : List EventData) → low ≤ rev → EventsRise rev ys → EventsRise low ys
    lower low rev [] below rising = tt
    lower low rev (y ∷ ys) below rising = (omega (arith, below, rising.0), rising.1)
rise_on rev low (x ∷ xs) ys below same rising = (omega (arith, below, same.0), rise_on rev x.rev xs ys (omega (arith, same.0)) same.1 rising)

log_rises : (resource : Resource) (rows : Standing) (m low : ℕ) (xs : List RevisionData) → low ≤ m + 1 → AreNumbered m xs → EventsRise low (events_from resource rows xs)
log_rises resource rows m low [] below numbered = tt
log_rises resource rows m low (x ∷ xs) below numbered =
    rise_on x.rev low (events_in resource rows x) (events_from resource (λ key. row_next resource key (rows key) x) xs) (omega (arith, below, numbered.0))
    (numbered_in resource rows x.rev x.changes)
    (log_rises resource (λ key. row_next resource key (rows key) x) (m + 1) x.rev xs (omega (arith, numbered.0)) numbered.1)

held_rise : (low : ℕ) (es : List EventData) → EventsRise low es → AreRisingFrom low (map held_event es)
held_rise low [] rising = tt
held_rise low (e ∷ es) rising = (rising.0, held_rise e.rev es rising.1)

held_within : (a b : ℕ) (es : List EventData) → AllByRecursion (λ e. (a < e.rev) × (e.rev ≤ b)) es → AllByRecursion (λ e. (a < e.rev) × (e.rev ≤ b)) (map held_event es)
held_within a b [] all = tt
held_within a b (e ∷ es) all = (all.0, held_within a b es all.1)

pub held_in_order : (log : Log) (resource : Resource) (at end : ℕ) → AreNumbered log.first log.revisions → log.first ≤ at →
    AreInOrder at (max at end) (held_events log resource at end)
held_in_order log resource at end numbered begun = record {
  rising = held_rise at (events log resource at end)
      (log_rises resource (row_at log resource at) (log.first + (at - log.first)) at (between log at end) (omega (arith, begun)) (numbered-between log at end numbered));
  within = held_within at (max at end) (events log resource at end)
      (all_weaker (λ (e : EventData). (at < e.rev) × (e.rev ≤ end)) (λ e. (at < e.rev) × (e.rev ≤ max at end)) (λ e both. (both.0, omega (arith, both.1)))
      (events log resource at end) (are_within log resource numbered at end));
}

-- what a cache that stands for the log gives
pub caught_by : (log : Log) (resource : Resource) (s : Selection) (at end many : ℕ) (lent : List EventRows) (caught : CaughtData) →
    AreNumbered log.first log.revisions → log.first ≤ at → s.resource ≡ resource → lent ≡ held_events log resource at end →
    (AreInOrder at (max at end) lent → AreFirst many (max at end) (filter_map (transition_of s) lent) caught) → IsCaught log s at end many caught
caught_by log resource s at end many lent caught numbered begun of held first =
    caught_is log s at end many caught numbered
    (subst (λ ts. AreFirst many (max at end) ts caught) lines_are
    (first (subst (AreInOrder at (max at end)) (sym held) (held_in_order log resource at end numbered begun))))
  where
    told : (es : List EventData) → filter_map (transition_of s) (map held_event es) ≡ filter_map (transition_by (selects s)) es
    told [] = refl
    told (e ∷ es) = ap (cons_option (transition_by (selects s) e)) (told es)

    lines_are : filter_map (transition_of s) lent ≡ transitions log s at end
    lines_are = ap (filter_map (transition_of s)) held ∙ told (events log resource at end) ∙ ap (λ r. filter_map (transition_by (selects s)) (events log r at end)) (sym of)

-- a watch that was told all that wasn't sent is told nothing more up to the end
pub caught_along : (log : Log) (s : Selection) (mark at end many : ℕ) (lines : List TransitionData) → mark ≤ at → transitions log s mark end ≡ [] → lines ≡ [] → 1 ≤ many →
    IsCaught log s at end many (record { upto = max at end; lines = lines })
caught_along log s mark at end many lines below nothing none some = record {
  exact = none ∙ sym (by (cases_lt end at));
  fewest = record { before = []; last = []; are = none; fewer = some; rev = 0; one_revision = All-nil (λ (t : TransitionData). t.rev ≡ 0) };
  stops = inl refl;
}
  where
    rest : (xs ys : List TransitionData) → xs ++ ys ≡ [] → ys ≡ []
    rest [] ys e = e
    rest (x ∷ xs) ys e = absurd (cc)

    by : (end < at) ⊎ (at ≤ end) → transitions log s at (max at end) ≡ []
    by (inl past) = no_transitions (selects s) log s.resource at (max at end) (omega (arith, past))
    by (inr onward) =
        let same : max at end ≡ end = omega (arith, onward) in
        ap (transitions log s at) same
        ∙ rest (transitions log s mark at) (transitions log s at end) (transitions_are_joined (selects s) log s.resource mark at end below onward ∙ nothing)
