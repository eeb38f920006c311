-- How a mirror begins anew from an opening.
use Rattle.std.proofs.Common.{◌≡◌, ℕ, ◌≤◌, List, [], Option, None, Some, Result, Ok, Err, IfSome, refl, sym, ap, ◌∙◌, subst}
use Rattle.edge_io.specs.Sent.{Sent, IsSentOn}
use Rattle.kube_meta.specs.Names.{IsNamespace}
use Rattle.kube_meta.specs.Rows.{RowData}
use Rattle.kube_meta.specs.declared.resources.Resource.{Resource}
use Rattle.kube_meta.specs.declared.resources.Resource.TheVariants.{Pods}
use Rattle.line_stream.specs.Readers.{ReaderData}
use Rattle.mirror_law.proofs.FollowLemmas.{followings_begin_anew}
use Rattle.mirror_link.specs.Refusals.{rebasing_refusal}
use Rattle.mirror_link.specs.Reopening.{IsAnew, IsAsBefore, IsNotTaken, HasNone, TakesOpening}
use Rattle.mirror_link.specs.Views.{MirrorData, IsMirror}
use Rattle.mirror_link.specs.declared.heard.Heard.{Heard}
use Rattle.mirror_link.proofs.CallLemmas.{view}
use Rattle.mirror_link.proofs.HearLemmas.{follows_as}
use Rattle.mirror_link.proofs.AnswerLemmas.{asked}
use Rattle.mirror_link.specs.Asking.{IsAsked}
use Rattle.mirror_link.specs.Openings.{OpeningData, opened_lines}
use Rattle.mirror_link.specs.Reading.{HasNoOpening}
use Rattle.mirror_link.specs.declared.link_refusal.LinkNo.{LinkNo}
use Rattle.mirror_link.specs.declared.link_refusal.LinkNo.TheVariants.{WriteFault}
use Rattle.mirror_log.specs.MirrorLogs.{MirrorLogData, Rests}
use Rattle.mirror_log.specs.Rebasing.{IsRebased, Rebases}
use Rattle.mirror_log.specs.declared.refusal.RebaseNo.{RebaseNo}
use Rattle.mirror_log.specs.declared.refusal.RebaseNo.TheVariants as rebase
use Rattle.rev_log.specs.Logs.{Log, IsLog, end_of}
use Rattle.rev_log.specs.States.{IsStateAt}
use Rattle.select_all.specs.Reading.{IsRead}
use Rattle.select_all.specs.declared.selection.Selection.{Selection}

-- a request that was sent on was asked, whatever comes of its opening
pub asked_whole : (old : MirrorData) (opening : OpeningData) (result : Result (Unit {0}) LinkNo) (new : MirrorData) (text : List ℕ) (sent : Sent)
    → TakesOpening old opening result new → IsSentOn text sent → IsAsked result text sent
asked_whole old opening (Ok u) new text sent takes is = is
asked_whole old opening (Err why) new text sent takes is =
    asked (Unit {0}) why text sent (λ fault. not_written (end_of old.log) takes.1.0 (sym takes.1.1 ∙ fault)) is
  where
    not_written : (to : ℕ) (fault : RebaseNo) → ¬ (rebasing_refusal to fault ≡ WriteFault)
    not_written to (rebase.Behind end) is = cc
    not_written to fault is = cc

-- a log that doesn't begin anew rests
pub rebase_rests : (old : MirrorLogData) (rows : List RowData) (base : ℕ) (why : RebaseNo) (new : MirrorLogData) → Rebases old rows base (Err why) new → Rests old new
rebase_rests old rows base rebase.Memory new is = is
rebase_rests old rows base why new is = is.0

-- and then its mirror stays one, whatever it answers
pub stays_mirror : (label field : List ℕ) (log : MirrorLogData) (reading : ReaderData) (answer given : Option (Result Heard LinkNo)) (after : MirrorLogData)
    → IsMirror (view label field log reading answer) → Rests log after → IsMirror (view label field after reading given)
stays_mirror label field log reading answer given after mirror rests = record {
  pods = ap (λ (s : Selection). s.resource) rests.selection ∙ mirror.pods;
  gap = rests.most_gap ∙ mirror.gap;
  read = subst (λ (s : Selection). IsRead Pods s.ns label field s) (sym rests.selection) mirror.read;
  namespace = subst (λ (s : Selection). IfSome s.ns IsNamespace) (sym rests.selection) mirror.namespace;
  some = subst (λ (l : Log). 1 ≤ l.first) (sym rests.log) mirror.some;
  unbound = mirror.unbound;
  limit = mirror.limit;
}

module _ (label field : List ℕ) (log : MirrorLogData) (reading : ReaderData) (answer : Option (Result Heard LinkNo)) (old : MirrorData)
    (is : view label field log reading answer ≡ old) where
  -- a log that was taken to an opening's rows follows its lines
  pub taken_anew : (opening : OpeningData) (rows : List RowData) (base : ℕ) (after : MirrorLogData) (later : ReaderData) → IsMirror (view label field log reading answer)
      → rows ≡ opening.rows → base ≡ opening.base → later ≡ opening.reading → IsLog after.log → IsRebased log rows base after → IsAnew old opening (view label field after later None)
  taken_anew opening rows base after later mirror rows_are base_is reading_is lawful rebased =
      let end : end_of after.log ≡ opening.base = rebased.end ∙ base_is in
      let state : IsStateAt after.log Pods opening.base opening.rows =
      subst (λ (l : List RowData). IsStateAt after.log Pods opening.base l) rows_are (subst (λ (n : ℕ). IsStateAt after.log Pods n rows) base_is
      (subst (λ (r : Resource). IsStateAt after.log r base rows) mirror.pods rebased.state)) in
      let state_of : IsStateAt after.log log.selection.resource opening.base opening.rows =
      subst (λ (r : Resource). IsStateAt after.log r opening.base opening.rows) (sym mirror.pods) state in
      subst (λ (m : MirrorData). IsAnew m opening (view label field after later None)) is
      (record {
        same = record { selection = rebased.selection; label = refl; field = refl };
        more = rebased.more;
        log = rebased.log;
        base = end;
        state = state;
        floor = rebased.floor ∙ base_is;
        kept = rebased.kept;
        reading = reading_is;
        follows = λ peer ask log_floor low good asked_for begins.
            follows_as peer log.selection opening.base opening.base (opened_lines opening) after.log [] after.selection after.log after.kept rebased.selection refl rebased.kept
            (followings_begin_anew peer log_floor low opening.base log.selection ask after.log opening.rows good.log asked_for.selection lawful end state_of begins);
      })

  -- where there is no opening, all stays but the answer
  pub none_anew : (taken : List ℕ) (left : Option (List ℕ)) (why : LinkNo) → HasNoOpening old.selection taken left why
      → HasNone old taken left why (view label field log reading (Some (Err why)))
  none_anew taken left why fault = record {
    fault = fault;
    before = subst (λ (m : MirrorData). IsAsBefore m (view label field log reading (Some (Err why)))) is
        (record { same = record { selection = refl; label = refl; field = refl }; log = refl; kept = refl; reading = refl });
  }

  -- a log that isn't taken to the opening is as before, and why is told
  pub not_taken : (opening : OpeningData) (rows : List RowData) (base to : ℕ) (why : RebaseNo) (after : MirrorLogData) (told : LinkNo)
      → rows ≡ opening.rows → base ≡ opening.base → to ≡ end_of log.log → told ≡ rebasing_refusal to why → Rebases log rows base (Err why) after
      → IsAsBefore old (view label field after reading (Some (Err told))) × IsNotTaken old opening told (view label field after reading (Some (Err told)))
  not_taken opening rows base to why after told rows_are base_is to_is told_is rebased =
      let rests : Rests log after = rebase_rests log rows base why after rebased in
      let fits : Rebases log opening.rows opening.base (Err why) after =
      subst (λ (l : List RowData). Rebases log l opening.base (Err why) after) rows_are (subst (λ (n : ℕ). Rebases log rows n (Err why) after) base_is rebased) in
      let said : told ≡ rebasing_refusal (end_of log.log) why = subst (λ (n : ℕ). told ≡ rebasing_refusal n why) to_is told_is in
      let before : IsAsBefore (view label field log reading answer) (view label field after reading (Some (Err told))) =
      record { same = record { selection = rests.selection; label = refl; field = refl }; log = rests.log; kept = rests.kept; reading = refl } in
      subst (λ (m : MirrorData). IsAsBefore m (view label field after reading (Some (Err told))) × IsNotTaken m opening told (view label field after reading (Some (Err told)))) is
      (before, (why, said, fits))
