-- The next line of a lawful body has no fault.
use Rattle.std.proofs.Common.{◌≡◌, ℕ, ◌+◌, ◌<◌, ◌^◌, List, Bool, true, false, Option, None, Some, refl, sym, ap, subst, arith}
use Rattle.std.specs.Prelude.{option_map, if◌then◌else◌, nat_lt, nat_le, ◌||◌, not, is_some}
use Rattle.std.proofs.lemmas.Bool.Decides.{nat_tests}
use Rattle.rev_log.specs.Logs.{Log, end_of}
use Rattle.select_all.specs.declared.selection.Selection.{Selection}
use Rattle.select_all.specs.Selecting.{selects}
use Rattle.select_all.specs.Streams.{TransitionData}
use Rattle.watch_rules.specs.declared.ask.WatchAsk.{WatchAsk}
use Rattle.watch_rules.specs.Bodies.{Line, Told, Bookmark, Closing, Lost}
use Rattle.watch_lines.specs.Laws.{as_read}
use Rattle.watch_lines.specs.Values.{ReadsByValue}
use Rattle.watch_lines.specs.declared.peer_line.PeerLine.{PeerLine}
use Rattle.mirror_law.specs.Clusters.{with_marks}
use Rattle.mirror_law.specs.Taking.{IsNotAbove, row_before}
use Rattle.mirror_law.proofs.TakenLemmas.{lines_are_reached}
use Rattle.mirror_log.specs.Faults.{event_fault, mark_fault, is_full_at, is_repeated, last_of}
use Rattle.mirror_log.specs.Intakes.{fits_kind}
use Rattle.mirror_log.specs.Laws.{IsAtMostGap}
use Rattle.mirror_log.specs.MirrorLogs.{MirrorLogData}
use Rattle.mirror_log.specs.declared.take_refusal.TakeNo.{TakeNo}
use Rattle.mirror_log.specs.declared.take_refusal.TakeNo.TheVariants as take
use Rattle.mirror_log.proofs.TakeLemmas.{taken_events_fit, taken_marks_fit}
use Rattle.cluster_link.specs.Laws.{IsFaultless}
use Rattle.cluster_link.specs.Refusals.{take_refusal}
use Rattle.cluster_link.specs.Telling.{told_fault}
use Rattle.cluster_link.proofs.FollowLemmas.{Premises, next, taken_line}

-- ---- a gap is above the greatest one

event_tests : (a b c d e : Bool) (last got other rev : ℕ) → (if a then Some take.BadLine else if b then Some take.BadLine else if c then Some take.BadLine else if d then Some (take.Order other rev) else if e then Some (take.Gap other rev) else None) ≡ Some (take.Gap last got) → e ≡ true
event_tests true b c d e last got other rev is = absurd (cc)
event_tests false true c d e last got other rev is = absurd (cc)
event_tests false false true d e last got other rev is = absurd (cc)
event_tests false false false true e last got other rev is = absurd (cc)
event_tests false false false false true last got other rev is = refl
event_tests false false false false false last got other rev is = absurd (cc)

mark_tests : (a b c : Bool) (last got other at : ℕ) → (if a then Some take.BadLine else if b then Some take.BadLine else if c then Some (take.Gap other at) else None) ≡ Some (take.Gap last got) → c ≡ true
mark_tests true b c last got other at is = absurd (cc)
mark_tests false true c last got other at is = absurd (cc)
mark_tests false false true last got other at is = refl
mark_tests false false false last got other at is = absurd (cc)

far : (last most rev : ℕ) → nat_lt (last + most) rev ≡ true → most < rev
far last most rev is = let above : last + most < rev = grind (arith, nat_tests) in omega (arith, above)

event_far : (s : Selection) (most : ℕ) (m : Log) (kept : List TransitionData) (t : TransitionData) (last got : ℕ) → event_fault s most m kept t ≡ Some (take.Gap last got) → most < t.rev
event_far s most m kept t last got is =
    far (last_of (end_of m) kept) most t.rev
    (event_tests (not (selects s t.obj)) (not (fits_kind t.kind (is_some (row_before m s.resource kept t.rev t.obj.key)))) (is_full_at kept t.rev) (nat_le t.rev (end_of m) || is_repeated kept t.rev t.obj.key)
    (nat_lt (last_of (end_of m) kept + most) t.rev) last got (last_of (end_of m) kept) t.rev is)

mark_far : (most to : ℕ) (kept : List TransitionData) (at last got : ℕ) → mark_fault most to kept at false ≡ Some (take.Gap last got) → most < at
mark_far most to kept at last got is =
    far (last_of to kept) most at (mark_tests false (nat_lt at (last_of to kept)) (nat_lt (last_of to kept + most) at) last got (last_of to kept) at is)

-- so where none can be above it, there is no fault
without : (fault : Option TakeNo) → IsAtMostGap fault → ((last got : ℕ) → fault ≡ Some (take.Gap last got) → ⊥) → option_map take_refusal fault ≡ None
without None fits near = refl
without (Some take.BadLine) fits near = absurd fits
without (Some (take.Order last got)) fits near = absurd fits
without (Some (take.Gap last got)) fits near = absurd (near last got refl)

module _ (log : Log) (ask : WatchAsk) (log_floor low b from : ℕ) (lines : List Line) (m : MirrorLogData) (text : List ℕ) (any : m.most_gap ≡ 2 ^ 62) where
  reached : (line : Line) → Premises log ask log_floor low b from lines line m text → IsNotAbove (end_of log) line
  reached line h =
      lines_are_reached log log_floor low b from m.selection ask (with_marks lines) m.log m.kept line h.cluster.log h.asked.selection h.follows (next log ask log_floor low b from lines m text line h)

  found_as : (line : Line) (found : Option PeerLine) → Premises log ask log_floor low b from lines line m text → ReadsByValue m.selection.resource text found → found ≡ Some (as_read line)
  found_as line None h none = absurd (none (as_read line) h.tells)
  found_as line (Some found) h read = ap Some (h.one m.selection.resource text found (as_read line) read h.tells)

  good : (line : Line) → Premises log ask log_floor low b from lines line m text → IsFaultless line (told_fault m (Some (as_read line)))
  good (Told t) h =
      without (event_fault m.selection m.most_gap m.log m.kept t) (taken_events_fit m.selection m.most_gap m.log m.kept t (taken_line log ask log_floor low b from lines m text (Told t) h))
      (λ last got is. omega (arith, event_far m.selection m.most_gap m.log m.kept t last got is, reached (Told t) h, h.cluster.log.ends, any))
  good (Bookmark at) h =
      without (mark_fault m.most_gap (end_of m.log) m.kept at false) (taken_marks_fit m.most_gap m.log m.kept at (taken_line log ask log_floor low b from lines m text (Bookmark at) h))
      (λ last got is. omega (arith, mark_far m.most_gap (end_of m.log) m.kept at last got is, reached (Bookmark at) h, h.cluster.log.ends, any))
  good (Closing at) h = absurd (taken_line log ask log_floor low b from lines m text (Closing at) h)
  good (Lost at floor) h = tt

  pub faultless : (line : Line) (found : Option PeerLine) → Premises log ask log_floor low b from lines line m text → ReadsByValue m.selection.resource text found → IsFaultless line (told_fault m found)
  faultless line found h reads = subst (λ (f : Option PeerLine). IsFaultless line (told_fault m f)) (sym (found_as line found h reads)) (good line h)
