-- All revisions up to one are committed in one section.
use Rattle.std.proofs.Common.{◌≡◌, ℕ, zero, suc, ◌+◌, ◌-◌, ◌^◌, ◌<◌, ◌≤◌, Bool, List, [], ◌∷◌, ◌++◌, length, Err, All, refl, sym, ap, ◌∙◌, subst, append_assoc, arith, length-append}
use Rattle.std.proofs.lemmas.List.{append-nil}
use Rattle.kube_meta.specs.Rows.{RowData}
use Rattle.rev_front.specs.Passes.{Pass, IsPass, Extends, quiets}
use Rattle.rev_log.specs.Changes.{RevisionData}
use Rattle.rev_log.specs.Logs.{Log, IsLog, Fits, end_of, grown, quiet_at}
use Rattle.select_all.specs.declared.selection.Selection.{Selection}
use Rattle.up_api.specs.Sections.{log_upto}
use Rattle.up_store.specs.Hearing.{AreHeard, IsFollowReply, filled}
use Rattle.up_store.specs.declared.hearing.HearNo.{HearNo}
use Rattle.up_store.specs.declared.hearing.HearNo.TheVariants as hear
use Rattle.up_store.proofs.ChangedLemmas.{quiet-fits, quiets-length}
use Rattle.mirror_law.specs.Mirrors.{IsRevisionTold}
use Rattle.mirror_law.proofs.RowLemmas.{logs_go_on}
use Rattle.mirror_log.specs.Intakes.{IntakeData, IsAtEnd, IsClear}
use Rattle.mirror_log.specs.Kept.{Holds}
use Rattle.mirror_log.specs.MirrorLogs.{MirrorLogData, Moves, MovesOne, Rests, Commits, hear_refusal}
use Rattle.mirror_log.proofs.LineLemmas.{next_of}
use Rattle.mirror_log.proofs.MoveLemmas.{moves_none, moves_on, quiet_moves}
use Rattle.mirror_log.proofs.PassLemmas.{added, added_to, passed}
use Rattle.mirror_log.proofs.StepLemmas.{view, same_log, rests, next_view, moves_one, moves_rest, clear}

-- a log goes on where nothing changes
quiet_logs : (n : ℕ) (log : Log) → IsLog log → end_of log + n ≤ 2 ^ 62 → IsLog (grown log (quiets quiet_at (end_of log) n))
quiet_logs zero log is within = subst (λ (revisions : List RevisionData). IsLog (record log { revisions = revisions })) (sym (append-nil log.revisions)) is
quiet_logs (suc n) log is within =
    let quiet : RevisionData = quiet_at (end_of log + 1) in
    let end : end_of (grown log (quiet ∷ [])) ≡ end_of log + 1 = omega (arith, length-append log.revisions (quiet ∷ [])) in
    let all : (log.revisions ++ quiet ∷ []) ++ quiets quiet_at (end_of (grown log (quiet ∷ []))) n ≡ log.revisions ++ quiets quiet_at (end_of log) (suc n) =
    append_assoc log.revisions (quiet ∷ []) (quiets quiet_at (end_of (grown log (quiet ∷ []))) n) ∙ ap (λ (m : ℕ). log.revisions ++ quiet ∷ quiets quiet_at m n) end in
    subst (λ (revisions : List RevisionData). IsLog (record log { revisions = revisions })) all
    (quiet_logs n (grown log (quiet ∷ [])) (logs_go_on log quiet is (quiet-fits (end_of log + 1)).1 refl (omega (arith, within))) (omega (arith, end, within)))

module _ (base : List RowData) (mirror : Bool) (p q : Pass RevisionData) (i : IntakeData) (pass : IsPass Fits p) (on : Extends p q) (holds : Holds base mirror p i)
    (old : MirrorLogData) (is : view base p i ≡ old) (upto : ℕ) (above : end_of old.log < upto) (revision : RevisionData) (told : IsRevisionTold i.selection.resource (i.to + 1) i.kept revision) where
  to_is : i.to ≡ end_of old.log
  to_is = holds.at.end ∙ ap (λ (m : MirrorLogData). end_of m.log) is

  next : All (λ t. t.rev ≡ end_of old.log + 1) old.kept
  next = next_of base mirror p i old holds is

  -- ---- the store refused them

  stayed : Moves old (view base q i)
  stayed = moves_rest old old (view base q i) (moves_none old) (subst (λ (m : MirrorLogData). Rests m (view base q i)) is (rests base mirror p q i on holds))

  same_end : end_of (log_upto base q i.to) ≡ i.to
  same_end = ap end_of (same_log base mirror p q i on holds) ∙ sym holds.at.end

  pub refused : (why : HearNo) → IsFollowReply base p i.to (revision ∷ []) upto (Err why) q → Commits old upto (Err (hear_refusal why)) (view base q i)
  refused (hear.Passed at) reply =
      (stayed, omega (arith, same_end, to_is, above), reply.0, omega (arith, same_end, passed p i.to at pass holds.seen reply.1 reply.2))
  refused hear.Memory reply = (stayed, omega (arith, same_end, to_is, above))

  -- ---- they are added

  module _ (j : IntakeData) (heard : AreHeard base p i.to (revision ∷ []) upto q) (cleared : IsClear i upto j) where
    abbrev count : ℕ
    count = upto - (i.to + 1)

    abbrev here : Log
    here = log_upto base p i.to

    all_is : filled i.to (revision ∷ []) upto ≡ revision ∷ quiets quiet_at (i.to + 1) count
    all_is =
        ap (λ (n : ℕ). quiets quiet_at i.to n ++ revision ∷ quiets quiet_at revision.rev (upto - revision.rev)) {x = revision.rev - i.to - 1} {y = 0} (omega (arith, told.number))
        ∙ ap (λ (n : ℕ). revision ∷ quiets quiet_at n (upto - n)) told.number

    long : i.to + length (filled i.to (revision ∷ []) upto) ≡ upto
    long = omega (arith, ap (λ (l : List RevisionData). length l) all_is, quiets-length (i.to + 1) count, to_is, above)

    next_log : log_upto base q j.to ≡ grown here (revision ∷ quiets quiet_at (i.to + 1) count)
    next_log =
        ap (log_upto base q) (cleared.to_is ∙ sym long)
        ∙ added base p q (filled i.to (revision ∷ []) upto) i.to heard.before pass on holds.seen heard.shown (sym heard.follow) heard.committed
        ∙ ap (λ (l : List RevisionData). grown here l) all_is

    -- one after the other
    in_two : grown here (revision ∷ quiets quiet_at (i.to + 1) count) ≡ grown (grown here (revision ∷ [])) (quiets quiet_at (end_of (grown here (revision ∷ []))) count)
    in_two =
        let end : i.to + 1 ≡ end_of (grown here (revision ∷ [])) = omega (arith, holds.at.end, length-append here.revisions (revision ∷ [])) in
        ap (λ (n : ℕ). grown here (revision ∷ quiets quiet_at n count)) end
        ∙ ap (λ (l : List RevisionData). record here { revisions = l }) (sym (append_assoc here.revisions (revision ∷ []) (quiets quiet_at (end_of (grown here (revision ∷ []))) count)))

    pub holds_past : upto ≤ 2 ^ 62 → IsAtEnd i.selection.resource j (grown here (revision ∷ quiets quiet_at (i.to + 1) count)) → Holds base mirror q j
    holds_past last at =
        let one : IsLog (grown here (revision ∷ [])) = logs_go_on here revision holds.log told.is (told.number ∙ ap (λ (n : ℕ). n + 1) holds.at.end) (omega (arith, holds.at.end, to_is, above, last)) in
        let end : end_of (grown here (revision ∷ [])) ≡ end_of here + 1 = omega (arith, length-append here.revisions (revision ∷ [])) in
        let log : IsLog (grown (grown here (revision ∷ [])) (quiets quiet_at (end_of (grown here (revision ∷ []))) count)) =
        quiet_logs count (grown here (revision ∷ [])) one (omega (arith, end, holds.at.end, to_is, above, last)) in
        record {
          a_mirror = holds.a_mirror;
          begun = omega (arith, on.log_is, holds.begun, cleared.to_is, to_is, above);
          seen = omega (arith, cleared.to_is, long, added_to base p q (filled i.to (revision ∷ []) upto) i.to heard.before pass on holds.seen heard.shown (sym heard.follow) heard.committed);
          log = subst IsLog (sym (next_log ∙ in_two)) log;
          lawful = clear i j upto holds.lawful cleared last;
          at = subst (λ (s : Selection). IsAtEnd s.resource j (log_upto base q j.to)) (sym cleared.selection) (subst (IsAtEnd i.selection.resource j) (sym next_log) at);
        }

    pub moves_past : Moves old (view base q j)
    moves_past =
        let mid : MirrorLogData = next_view base p q i revision in
        let first : Moves old mid = moves_on old old mid next (moves_none old) (subst (λ (m : MirrorLogData). MovesOne m mid) is (moves_one base mirror p q i revision holds told)) in
        moves_rest old (record mid { log = grown mid.log (quiets quiet_at (end_of mid.log) count) }) (view base q j) (quiet_moves count old mid next first refl)
        (record { selection = cleared.selection; most_gap = cleared.most_gap; log = next_log ∙ in_two; kept = cleared.kept })

    pub end_past : end_of (log_upto base q j.to) ≡ upto
    end_past = ap end_of next_log ∙ omega (arith, length-append here.revisions (revision ∷ quiets quiet_at (i.to + 1) count), quiets-length (i.to + 1) count, holds.at.end, to_is, above)
