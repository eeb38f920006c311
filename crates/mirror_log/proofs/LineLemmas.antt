-- What one line makes of a mirror's log.
use Rattle.std.proofs.Common.{◌≡◌, ℕ, ◌+◌, ◌-◌, ◌^◌, ◌<◌, ◌≤◌, Bool, true, false, eqb, List, [], ◌∷◌, ◌++◌, length, take, None, All, is_some, refl, sym, ap, ◌∙◌, subst, inl, inr, arith}
use Rattle.std.specs.List.{AllByRecursion}
use Rattle.std.proofs.Math.Seq.{take-nil}
use Rattle.std.proofs.lemmas.Bool.{cases_Bool}
use Rattle.std.proofs.lemmas.List.Elements.{All-nil, recursion_from_All}
use Rattle.kube_meta.specs.Rows.{RowData, AreRising}
use Rattle.rev_front.specs.Passes.{Pass, Whole, empty_log, pass_from}
use Rattle.rev_log.specs.Changes.{RevisionData, IsRevision}
use Rattle.rev_log.specs.Logs.{Log, IsLog, end_of}
use Rattle.rev_log.specs.States.{row_at}
use Rattle.select_all.specs.declared.selection.Selection.{Selection}
use Rattle.select_all.specs.Streams.{TransitionData}
use Rattle.up_api.specs.Sections.{log_upto}
use Rattle.watch_rules.specs.Bodies.{Told}
use Rattle.mirror_law.specs.Mirrors.{of_revision, opened_log}
use Rattle.mirror_law.specs.Taking.{row_before}
use Rattle.mirror_log.specs.Intakes.{IntakeData, IsIntake, IsAtEnd, Keeps, fits_kind, most_kept}
use Rattle.mirror_log.specs.Faults.{event_fault, mark_fault, is_repeated, last_of}
use Rattle.mirror_log.proofs.IntakeLemmas.{one_more, stood_here}
use Rattle.mirror_log.specs.Kept.{Holds}
use Rattle.mirror_log.specs.MirrorLogs.{MirrorLogData, Takes, Moves}
use Rattle.mirror_log.proofs.FaultLemmas.{IsGood, good, good_mark}
use Rattle.mirror_log.proofs.StepLemmas.{view, kept_of, room}

-- ---- what is known before a line

pub next_of : (base : List RowData) (mirror : Bool) (p : Pass RevisionData) (i : IntakeData) (old : MirrorLogData) → Holds base mirror p i → view base p i ≡ old → All (λ t. t.rev ≡ end_of old.log + 1) old.kept
next_of base mirror p i old holds is =
    subst (λ (m : MirrorLogData). All (λ t. t.rev ≡ end_of m.log + 1) m.kept) is (subst (λ (n : ℕ). All (λ t. t.rev ≡ n + 1) i.kept) holds.at.end holds.lawful.next)

pub event_good : (base : List RowData) (mirror : Bool) (p : Pass RevisionData) (i : IntakeData) (old : MirrorLogData) (t : TransitionData) → Holds base mirror p i → view base p i ≡ old
    → event_fault i.selection i.most_gap (log_upto base p i.to) i.kept t ≡ None → (event_fault old.selection old.most_gap old.log old.kept t ≡ None) × IsGood old.selection.resource old.log old.kept t
event_good base mirror p i old t holds is none =
    let here : event_fault old.selection old.most_gap old.log old.kept t ≡ None = ap (λ (m : MirrorLogData). event_fault m.selection m.most_gap m.log m.kept t) (sym is) ∙ none in
    (here, good old.selection old.most_gap old.log old.kept t here)

pub mark_good : (base : List RowData) (mirror : Bool) (p : Pass RevisionData) (i : IntakeData) (old : MirrorLogData) (at : ℕ) (closing : Bool) → Holds base mirror p i → view base p i ≡ old
    → mark_fault i.most_gap i.to i.kept at closing ≡ None → (mark_fault old.most_gap (end_of old.log) old.kept at closing ≡ None) × (last_of (end_of old.log) old.kept ≤ at)
mark_good base mirror p i old at closing holds is none =
    let end : end_of old.log ≡ i.to = ap (λ (m : MirrorLogData). end_of m.log) (sym is) ∙ sym holds.at.end in
    let kept : old.kept ≡ i.kept = ap (λ (m : MirrorLogData). m.kept) (sym is) in
    let gap : old.most_gap ≡ i.most_gap = ap (λ (m : MirrorLogData). m.most_gap) (sym is) in
    let here : mark_fault old.most_gap (end_of old.log) old.kept at closing ≡ None =
    ap (λ (g : ℕ). mark_fault g (end_of old.log) old.kept at closing) gap ∙ ap (λ (n : ℕ). mark_fault i.most_gap n old.kept at closing) end
    ∙ ap (λ (l : List TransitionData). mark_fault i.most_gap i.to l at closing) kept ∙ none in
    (here, (good_mark old.most_gap (end_of old.log) at old.kept closing here).1)

-- the last revision told isn't below the end
end_first : (to at : ℕ) (kept : List TransitionData) → AllByRecursion (λ t. t.rev ≡ to + 1) kept → last_of to kept ≤ at → to ≤ at
end_first to at [] next last = last
end_first to at (t ∷ kept) next last = omega (arith, next.0, last)

pub mark_above : (old : MirrorLogData) (at : ℕ) → All (λ t. t.rev ≡ end_of old.log + 1) old.kept → last_of (end_of old.log) old.kept ≤ at → end_of old.log ≤ at
mark_above old at next last = end_first (end_of old.log) at old.kept (recursion_from_All (λ t. t.rev ≡ end_of old.log + 1) old.kept next) last

-- ---- an event

-- of lines of one revision, those that repeat a key there are those that do
same_repeats : (rev : ℕ) (key : List ℕ) (kept : List TransitionData) → is_repeated (of_revision rev kept) rev key ≡ is_repeated kept rev key
same_repeats rev key [] = refl
same_repeats rev key (t ∷ kept) = elim (cases_Bool (eqb t.rev rev)) [
  | inl here ↦ simp here (simp (same_repeats rev key kept) refl)
  | inr other ↦ simp other (same_repeats rev key kept)
]

module _ (base : List RowData) (mirror : Bool) (q : Pass RevisionData) (old mid : MirrorLogData) (i : IntakeData) (t : TransitionData)
    (next : All (λ u. u.rev ≡ end_of old.log + 1) old.kept) (fine : IsGood old.selection.resource old.log old.kept t) (moves : Moves old mid) (end : end_of mid.log ≡ t.rev - 1)
    (holds : Holds base mirror q i) (is : view base q i ≡ mid) where
  pub number : t.rev ≡ i.to + 1
  number = omega (arith, fine.above, end, ap (λ (m : MirrorLogData). end_of m.log) is, holds.at.end)

  pub few : length i.kept < most_kept
  few = omega (arith, room old mid t next moves fine end, ap (λ (m : MirrorLogData). length m.kept) is)

  own : i.kept ≡ of_revision t.rev old.kept
  own = ap (λ (m : MirrorLogData). m.kept) is ∙ kept_of old mid t.rev next moves fine.above end

  pub new_key : is_repeated i.kept t.rev t.obj.key ≡ false
  new_key = ap (λ (l : List TransitionData). is_repeated l t.rev t.obj.key) own ∙ same_repeats t.rev t.obj.key old.kept ∙ fine.new

  fits : fits_kind t.kind (is_some (row_at (log_upto base q i.to) i.selection.resource (end_of (log_upto base q i.to)) t.obj.key)) ≡ true
  fits =
      let log : Log = log_upto base q i.to in
      let here : is_some (row_at log i.selection.resource (end_of log) t.obj.key) ≡ is_some (row_before old.log old.selection.resource old.kept t.rev t.obj.key) =
      stood_here i holds.lawful log holds.at t.obj.key t.rev (omega (arith, number))
      ∙ ap (λ (m : MirrorLogData). is_some (row_before m.log m.selection.resource m.kept t.rev t.obj.key)) is
      ∙ ap (λ (s : Selection). is_some (row_before mid.log s.resource mid.kept t.rev t.obj.key)) moves.selection
      ∙ moves.stands t.rev t.obj.key (omega (arith, end, fine.above)) in
      ap (fits_kind t.kind) here ∙ fine.fits

  module _ (j : IntakeData) (keeps : Keeps i t j) where
    kept_log : log_upto base q j.to ≡ log_upto base q i.to
    kept_log = ap (log_upto base q) keeps.to

    pub holds_kept : ((log : Log) → IsAtEnd i.selection.resource i log → fits_kind t.kind (is_some (row_at log i.selection.resource (end_of log) t.obj.key)) ≡ true → IsAtEnd i.selection.resource j log) → Holds base mirror q j
    holds_kept at = record {
      a_mirror = holds.a_mirror;
      begun = omega (arith, holds.begun, keeps.to);
      seen = omega (arith, holds.seen, keeps.to);
      log = subst IsLog (sym kept_log) holds.log;
      lawful = one_more i j t holds.lawful number few new_key keeps.most_gap keeps.to keeps.kept;
      at = subst (λ (s : Selection). IsAtEnd s.resource j (log_upto base q j.to)) (sym keeps.selection) (subst (IsAtEnd i.selection.resource j) (sym kept_log) (at (log_upto base q i.to) holds.at fits));
    }

    pub takes : Takes old (Told t) (view base q j)
    takes =
        let log : log_upto base q j.to ≡ mid.log = kept_log ∙ ap (λ (m : MirrorLogData). m.log) is in
        record {
          selection = keeps.selection ∙ ap (λ (m : MirrorLogData). m.selection) is ∙ moves.selection;
          most_gap = keeps.most_gap ∙ ap (λ (m : MirrorLogData). m.most_gap) is ∙ moves.most_gap;
          grows = record { more = moves.grows.more; log_is = log ∙ moves.grows.log_is; told_by = moves.grows.told_by };
          reached = ap end_of log ∙ end;
          kept = keeps.kept ∙ ap (λ (l : List TransitionData). l ++ t ∷ []) own;
        }

-- ---- a bookmark

none_kept : (old : MirrorLogData) (at : ℕ) (kept : List TransitionData) → AllByRecursion (λ t. t.rev ≡ end_of old.log + 1) kept → last_of (end_of old.log) kept ≤ at → at ≡ end_of old.log → kept ≡ []
none_kept old at [] next last same = refl
none_kept old at (t ∷ kept) next last same = absurd (omega (arith, next.0, last, same))

-- ---- the beginning

pub opens : (base rows : List RowData) (mirror : Bool) (p : Pass RevisionData) (i : IntakeData) (first : ℕ) (w : Whole RevisionData)
    → base ≡ rows → mirror ≡ true → AreRising rows → All (λ row. row.rev ≤ first) rows → first ≤ 2 ^ 62 → p ≡ pass_from w p.seat → w ≡ empty_log first
    → i.to ≡ first → IsIntake i → IsAtEnd i.selection.resource i (opened_log first rows) → Holds base mirror p i
opens base rows mirror p i first w same a_mirror rising old within pass none to lawful at =
    let begins : p.first ≡ first = ap (λ (r : Pass RevisionData). r.first) pass ∙ ap (λ (v : Whole RevisionData). v.first) none in
    let sees : p.seen ≡ [] = ap (λ (r : Pass RevisionData). r.seen) pass ∙ ap (λ (v : Whole RevisionData). v.log) none in
    let log_is : log_upto base p i.to ≡ opened_log first rows =
    ap (λ (l : List RevisionData). let log : Log = record { first = p.first; base = base; revisions = take (i.to - p.first) l } in log) sees
    ∙ ap (λ (l : List RevisionData). let log : Log = record { first = p.first; base = base; revisions = l } in log) (take-nil (i.to - p.first))
    ∙ ap (λ (n : ℕ). let log : Log = record { first = n; base = base; revisions = [] } in log) begins
    ∙ ap (λ (l : List RowData). let log : Log = record { first = first; base = l; revisions = [] } in log) same in
    record {
      a_mirror = a_mirror;
      begun = omega (arith, begins, to);
      seen = omega (arith, begins, to, ap (λ (l : List RevisionData). length l) sees);
      log = subst IsLog (sym log_is) (record { base_rising = rising; base_old = old; numbered = tt; revisions = All-nil IsRevision; ends = omega (arith, within) });
      lawful = lawful;
      at = subst (IsAtEnd i.selection.resource i) (sym log_is) at;
    }
