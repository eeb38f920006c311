-- What one commit, and one line, make of a mirror's log.
use Rattle.std.proofs.Common.{◌≡◌, ℕ, ◌+◌, ◌-◌, ◌^◌, ◌<◌, ◌≤◌, Bool, true, false, bytes_eq, List, [], ◌∷◌, length, Option, All, is_some, refl, sym, ap, ◌∙◌, subst, inl, inr, arith}
use Rattle.std.specs.Prelude.{AllPairs}
use Rattle.std.proofs.lemmas.Bool.{cases_lt, cases_eq, eq-eqb, ne_eqb, leb-false}
use Rattle.std.proofs.lemmas.List.{length-append}
use Rattle.std.proofs.lemmas.List.Elements.{All-nil, recursion_from_All}
use Rattle.kube_meta.specs.Rows.{RowData}
use Rattle.rev_front.specs.Passes.{Pass, Extends}
use Rattle.rev_front.proofs.Passing.{extends_self, extends_trans}
use Rattle.rev_log.specs.Changes.{RevisionData}
use Rattle.rev_log.specs.Logs.{Log, IsLog, end_of, grown}
use Rattle.rev_log.specs.States.{row_at}
use Rattle.select_all.specs.declared.selection.Selection.{Selection}
use Rattle.select_all.specs.Streams.{TransitionData}
use Rattle.up_api.specs.Sections.{Learns, log_upto}
use Rattle.mirror_law.specs.Mirrors.{of_revision, IsRevisionTold}
use Rattle.mirror_law.specs.Taking.{row_before}
use Rattle.mirror_log.specs.Intakes.{IntakeData, IsIntake, IsAtEnd, IsClear, fits_kind, most_kept}
use Rattle.mirror_log.proofs.IntakeLemmas.{stood_later}
use Rattle.mirror_log.proofs.KindLemmas.{apart, stood_after}
use Rattle.mirror_log.proofs.RowLemmas.{committed}
use Rattle.mirror_log.specs.Kept.{Holds}
use Rattle.mirror_log.specs.MirrorLogs.{MirrorLogData, Moves, MovesOne, Rests, StandsOn, kept_at}
use Rattle.mirror_log.proofs.FaultLemmas.{IsGood}
use Rattle.mirror_log.proofs.MoveLemmas.{all_at, none_at}
use Rattle.mirror_log.proofs.PassLemmas.{stays, seen_on}

-- ---- passes

pub learns_self : (p : Pass RevisionData) → Learns p p
learns_self p = record { extends = extends_self p; loads_stay = refl }

pub learns_on : (p q r : Pass RevisionData) → Learns p q → Learns q r → Learns p r
learns_on p q r first second = record {
  extends = extends_trans p q r first.extends second.extends;
  loads_stay = second.loads_stay ∙ first.loads_stay;
}

-- ---- the fields as contracts see them

abbrev pub view : List RowData → Pass RevisionData → IntakeData → MirrorLogData
view base p i = record { selection = i.selection; most_gap = i.most_gap; told = p; log = log_upto base p i.to; kept = i.kept }

module _ (base : List RowData) (mirror : Bool) (p q : Pass RevisionData) (i : IntakeData) (on : Extends p q) (holds : Holds base mirror p i) where
  pub same_log : log_upto base q i.to ≡ log_upto base p i.to
  same_log = stays base p q i.to on holds.seen

  pub holds_on : Holds base mirror q i
  holds_on = record {
    a_mirror = holds.a_mirror;
    begun = omega (arith, on.log_is, holds.begun);
    seen = omega (arith, holds.seen, seen_on p q on);
    log = subst IsLog (sym same_log) holds.log;
    lawful = holds.lawful;
    at = subst (IsAtEnd i.selection.resource i) (sym same_log) holds.at;
  }

  pub rests : Rests (view base p i) (view base q i)
  rests = record { selection = refl; most_gap = refl; log = same_log; kept = refl }

pub rests_same : (m : MirrorLogData) → Rests m m
rests_same m = record { selection = refl; most_gap = refl; log = refl; kept = refl }

-- ---- a revision is committed

-- an intake that has nothing kept
pub clear : (old new : IntakeData) (to : ℕ) → IsIntake old → IsClear old to new → to ≤ 2 ^ 62 → IsIntake new
clear old new to was is within = record {
  ends = omega (arith, is.to_is, within);
  bounded = omega (arith, is.most_gap, was.bounded);
  next = subst (All (λ t. t.rev ≡ new.to + 1)) (sym is.kept) (All-nil (λ t. t.rev ≡ new.to + 1));
  few = omega (arith, ap (λ (l : List TransitionData). length l) is.kept);
  distinct = subst (AllPairs (λ t u. bytes_eq t.obj.key u.obj.key ≡ false)) (sym is.kept) (λ a b d less inside. absurd (omega (arith, inside)));
}

-- the log with the revision of the lines that are kept
abbrev pub next_view : List RowData → Pass RevisionData → Pass RevisionData → IntakeData → RevisionData → MirrorLogData
next_view base p q i revision = record { selection = i.selection; most_gap = i.most_gap; told = q; log = grown (log_upto base p i.to) (revision ∷ []); kept = [] }

module _ (base : List RowData) (mirror : Bool) (p q : Pass RevisionData) (i : IntakeData) (revision : RevisionData)
    (holds : Holds base mirror p i) (told : IsRevisionTold i.selection.resource (i.to + 1) i.kept revision) where
  told_log : IsRevisionTold i.selection.resource (end_of (log_upto base p i.to) + 1) i.kept revision
  told_log = subst (λ (n : ℕ). IsRevisionTold i.selection.resource (n + 1) i.kept revision) holds.at.end told

  stands_next : StandsOn (view base p i) (next_view base p q i revision)
  stands_next rev_above key above =
      let log : Log = log_upto base p i.to in
      let row : Option RowData = row_at log i.selection.resource (end_of log) key in
      let end : end_of (grown log (revision ∷ [])) ≡ end_of log + 1 = omega (arith, length-append log.revisions (revision ∷ [])) in
      let fit = recursion_from_All (λ t. fits_kind t.kind (is_some (row_at log i.selection.resource (end_of log) t.obj.key)) ≡ true) i.kept holds.at.fits in
      let later : i.to + 1 < rev_above = omega (arith, above, end, holds.at.end) in
      ap (λ (n : ℕ). is_some (row_at (grown log (revision ∷ [])) i.selection.resource n key)) end
      ∙ committed log key i.kept revision fit told_log
      ∙ stood_after (row_at log i.selection.resource (end_of log)) key i.kept (apart i.kept holds.lawful.distinct) fit
      ∙ stood_later i holds.lawful log holds.at key rev_above later

  pub moves_one : MovesOne (view base p i) (next_view base p q i revision)
  moves_one = record {
    selection = refl;
    most_gap = refl;
    revision = revision;
    told_by = told_log;
    log_is = refl;
    kept = refl;
    stands = stands_next;
  }

-- ---- after commits

pub moves_rest : (a b c : MirrorLogData) → Moves a b → Rests b c → Moves a c
moves_rest a b c moves rests = record {
  selection = rests.selection ∙ moves.selection;
  most_gap = rests.most_gap ∙ moves.most_gap;
  grows = record { more = moves.grows.more; log_is = rests.log ∙ moves.grows.log_is; told_by = moves.grows.told_by };
  kept = rests.kept ∙ moves.kept ∙ ap (λ (log : Log). kept_at a (end_of log)) (sym rests.log);
  stands = λ rev key above.
      ap (λ (log : Log). is_some (row_before log a.selection.resource c.kept rev key)) rests.log
      ∙ ap (λ (l : List TransitionData). is_some (row_before b.log a.selection.resource l rev key)) rests.kept
      ∙ moves.stands rev key (omega (arith, above, ap end_of rests.log));
}

-- what is kept once all revisions before an event's are committed is what was kept of its own
pub kept_of : (a b : MirrorLogData) (rev : ℕ) → All (λ t. t.rev ≡ end_of a.log + 1) a.kept → Moves a b → end_of a.log < rev → end_of b.log ≡ rev - 1 → b.kept ≡ of_revision rev a.kept
kept_of a b rev next moves above end = elim (cases_eq (end_of b.log) (end_of a.log)) [
  | inl same ↦
      let number : rev ≡ end_of a.log + 1 = omega (arith, same, above, end) in
      moves.kept ∙ rw (eq-eqb (end_of b.log) (end_of a.log) same) (sym (ap (λ (n : ℕ). of_revision n a.kept) number ∙ all_at (end_of a.log + 1) a.kept (recursion_from_All (λ t. t.rev ≡ end_of a.log + 1) a.kept next)))
  | inr other ↦
      moves.kept ∙ rw (ne_eqb (end_of b.log) (end_of a.log) other) (sym (none_at (end_of a.log + 1) rev a.kept (recursion_from_All (λ t. t.rev ≡ end_of a.log + 1) a.kept next) (later other)))
]
  where
    later : (end_of b.log ≡ end_of a.log → ⊥) → end_of a.log + 1 < rev
    later other = elim (cases_lt (end_of a.log + 1) rev) [
      | inl more ↦ more
      | inr here ↦ absurd (other (omega (arith, here, above, end)))
    ]

-- what is kept then is no more than may be, and has no line of the event's object
pub room : (a b : MirrorLogData) (t : TransitionData) → All (λ u. u.rev ≡ end_of a.log + 1) a.kept → Moves a b → IsGood a.selection.resource a.log a.kept t → end_of b.log ≡ t.rev - 1 → length b.kept < most_kept
room a b t next moves good end =
    omega (arith, leb-false 64 (length (of_revision t.rev a.kept)) good.few, ap (λ (l : List TransitionData). length l) (kept_of a b t.rev next moves good.above end))

-- ---- the beginning, and lines that are forgotten

pub holds_clear : (base : List RowData) (mirror : Bool) (p : Pass RevisionData) (i j : IntakeData) → Holds base mirror p i → IsClear i i.to j → ((log : Log) → IsAtEnd i.selection.resource i log → IsAtEnd i.selection.resource j log) → Holds base mirror p j
holds_clear base mirror p i j holds cleared at =
    let same : log_upto base p j.to ≡ log_upto base p i.to = ap (log_upto base p) cleared.to_is in
    record {
      a_mirror = holds.a_mirror;
      begun = omega (arith, holds.begun, cleared.to_is);
      seen = omega (arith, holds.seen, cleared.to_is);
      log = subst IsLog (sym same) holds.log;
      lawful = clear i j i.to holds.lawful cleared holds.lawful.ends;
      at = subst (λ (s : Selection). IsAtEnd s.resource j (log_upto base p j.to)) (sym cleared.selection) (subst (IsAtEnd i.selection.resource j) (sym same) (at (log_upto base p i.to) holds.at));
    }
