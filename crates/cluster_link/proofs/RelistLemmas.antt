-- How a mirror of a cluster begins, and begins anew, from a list.
use Rattle.std.proofs.Common.{◌≡◌, ℕ, List, [], Option, Some, Result, Ok, Err, refl, sym, ap, ◌∙◌, subst, inl, inr}
use Rattle.std.specs.Prelude.{OnOk}
use Rattle.edge_io.specs.Sent.{Sent}
use Rattle.kube_meta.specs.Rows.{RowData}
use Rattle.line_stream.specs.Readers.{ReaderData}
use Rattle.mirror_law.specs.Following.{Follows}
use Rattle.mirror_law.specs.Mirrors.{IsMirrorOf}
use Rattle.mirror_law.proofs.FollowLemmas.{followings_resume}
use Rattle.mirror_law.proofs.MirrorLemmas.{mirrors_begin_anew}
use Rattle.mirror_log.specs.MirrorLogs.{MirrorLogData, Rests}
use Rattle.mirror_log.specs.Rebasing.{IsRebased, Rebases}
use Rattle.mirror_log.specs.declared.refusal.RebaseNo.{RebaseNo}
use Rattle.mirror_log.specs.declared.refusal.RebaseNo.TheVariants as rebase
use Rattle.rev_log.specs.Logs.{Log, IsLog, end_of}
use Rattle.rev_log.specs.States.{IsStateAt}
use Rattle.select_all.specs.declared.selection.Selection.{Selection}
use Rattle.select_all.specs.Selecting.{selects}
use Rattle.select_all.specs.Streams.{TransitionData}
use Rattle.cluster_link.specs.Counting.{CountsSource}
use Rattle.cluster_link.specs.Lists.{ListData, HasList, IsClusterList, IsOfAll}
use Rattle.cluster_link.specs.Mirroring.{ClusterData, FollowsCluster, IsClusterMirror, MirrorsList, mirror_log, unread}
use Rattle.cluster_link.specs.Refusals.{anew_refusal}
use Rattle.cluster_link.specs.Relisting.{IsListedAnew, IsNotRelisted, IsStill, NamesRefusal, Relists, TakesList, TellsOther}
use Rattle.cluster_link.specs.declared.heard.Heard.{Heard}
use Rattle.cluster_link.specs.declared.heard.Heard.TheVariants.{Ended}
use Rattle.cluster_link.specs.declared.refusal.ClusterNo.{ClusterNo}
use Rattle.cluster_link.specs.declared.refusal.ClusterNo.TheVariants.{ReadFault}
use Rattle.cluster_link.proofs.AnswerLemmas.{quiet}
use Rattle.cluster_link.proofs.HearLemmas.{view_of}

-- ---- a list's log is a mirror of the cluster's

-- one that was taken to its rows
pub anew_mirrors : (list : ListData) (m : Log) → IsClusterList list → IsLog m → end_of m ≡ list.at → IsStateAt m list.selection.resource list.at list.rows → MirrorsList list m
anew_mirrors list m lawful is end state peer cluster listing reached =
    mirrors_begin_anew (selects list.selection) peer list.selection.resource list.at m list.rows cluster.log is end reached state listing

-- ---- taking a list

-- a log that doesn't begin anew rests
pub refused_rests : (old : MirrorLogData) (rows : List RowData) (at : ℕ) (why : RebaseNo) (new : MirrorLogData) → Rebases old rows at (Err why) new → Rests old new
refused_rests old rows at rebase.Memory new is = is
refused_rests old rows at why new is = is.0

pub rests_on : (old between new : MirrorLogData) → Rests old between → Rests between new → Rests old new
rests_on old between new first second = record {
  selection = second.selection ∙ first.selection;
  most_gap = second.most_gap ∙ first.most_gap;
  log = second.log ∙ first.log;
  kept = second.kept ∙ first.kept;
}

-- and its mirror stays one, whatever it answers
pub rests_mirror : (log after : MirrorLogData) (reading : ReaderData) (answer given : Option (Result Heard ClusterNo)) → IsClusterMirror (view_of log reading answer) → Rests log after
    → IsClusterMirror (view_of after reading given)
rests_mirror log after reading answer given mirror rests = record {
  all = subst IsOfAll (sym rests.selection) mirror.all;
  any_gap = rests.most_gap ∙ mirror.any_gap;
  unbound = mirror.unbound;
}

pub anew_mirror : (log after : MirrorLogData) (reading later : ReaderData) (answer given : Option (Result Heard ClusterNo)) (rows : List RowData) (at : ℕ) → IsClusterMirror (view_of log reading answer)
    → IsRebased log rows at after → later ≡ unread → IsClusterMirror (view_of after later given)
anew_mirror log after reading later answer given rows at mirror rebased is = record {
  all = subst IsOfAll (sym rebased.selection) mirror.all;
  any_gap = rebased.most_gap ∙ mirror.any_gap;
  unbound = ap (λ (r : ReaderData). r.room) is;
}

module _ (log : MirrorLogData) (reading : ReaderData) (answer : Option (Result Heard ClusterNo)) (old : ClusterData) (is : view_of log reading answer ≡ old) where
  -- it goes on from a list
  pub listed_anew : (list : ListData) (after : MirrorLogData) (later : ReaderData) (given : Option (Result Heard ClusterNo)) (rows : List RowData) (at : ℕ) → IsClusterList list → list.selection ≡ log.selection → rows ≡ list.rows → at ≡ list.at → later ≡ unread
      → given ≡ Some (Ok (Ended at)) → IsLog after.log → IsRebased log rows at after → IsListedAnew old list (view_of after later given)
  listed_anew list after later given rows at lawful of rows_are at_is later_is given_is a_log rebased =
      let end : end_of after.log ≡ list.at = rebased.end ∙ at_is in
      let state : IsStateAt after.log list.selection.resource list.at list.rows =
      subst (λ (s : Selection). IsStateAt after.log s.resource list.at list.rows) (sym of)
      (subst (λ (l : List RowData). IsStateAt after.log log.selection.resource list.at l) rows_are (subst (λ (n : ℕ). IsStateAt after.log log.selection.resource n rows) at_is rebased.state)) in
      subst (λ (m : ClusterData). IsListedAnew m list (view_of after later given)) is
      (record {
        selection = rebased.selection;
        more = rebased.more;
        log = rebased.log;
        end = end;
        state = state;
        floor = rebased.floor ∙ at_is;
        kept = rebased.kept;
        reading = later_is;
        answer = given_is ∙ ap (λ (n : ℕ). let said : Option (Result Heard ClusterNo) = Some (Ok (Ended n)) in said) at_is;
        mirrors = anew_mirrors list after.log lawful a_log end state;
      })

  -- all stays but the answer
  pub still : (after : MirrorLogData) (why : ClusterNo) → Rests log after → IsStill old why (view_of after reading (Some (Err why)))
  still after why rests = subst (λ (m : ClusterData). IsStill m why (view_of after reading (Some (Err why)))) is
      (record { selection = rests.selection; log = rests.log; kept = rests.kept; reading = refl; answer = refl })

  -- and why it isn't taken is told
  pub not_relisted : (list : ListData) (between after : MirrorLogData) (given : Option (Result Heard ClusterNo)) (rows : List RowData) (at to : ℕ) (fault : RebaseNo) (why : ClusterNo) → rows ≡ list.rows → at ≡ list.at → to ≡ end_of log.log
      → Rebases log rows at (Err fault) between → NamesRefusal between rows to at fault why after → IsNotRelisted old list why (view_of after reading given)
  not_relisted list between after given rows at to fault why rows_are at_is to_is refused named =
      let here : Rebases log list.rows list.at (Err fault) between =
      subst (λ (l : List RowData). Rebases log l list.at (Err fault) between) rows_are (subst (λ (n : ℕ). Rebases log rows n (Err fault) between) at_is refused) in
      let names : NamesRefusal between list.rows (end_of log.log) list.at fault why after =
      subst (λ (l : List RowData). NamesRefusal between l (end_of log.log) list.at fault why after) rows_are
      (subst (λ (n : ℕ). NamesRefusal between rows (end_of log.log) n fault why after) at_is (subst (λ (n : ℕ). NamesRefusal between rows n at fault why after) to_is named)) in
      subst (λ (m : ClusterData). IsNotRelisted m list why (view_of after reading given)) is
      (record { fault = fault; between = between; refused = here; named = names })

-- ---- the whole call

pub relists : (old : ClusterData) (taken : List ℕ) (left : Option (List ℕ)) (sent : Sent) (list : ListData) (result : Result (Unit {0}) ClusterNo) (new : ClusterData) → IsClusterList list → HasList old.selection taken sent list
    → TakesList old list result new → Relists old taken left sent result new
relists old taken left sent list (Ok u) new lawful has takes = record { list = list; lawful = lawful; has = has; takes = takes }
relists old taken left sent list (Err why) new lawful has takes = inl (record { list = list; lawful = lawful; has = has; takes = takes })

anew_quietly : (to at : ℕ) (fault : RebaseNo) → ¬ (anew_refusal to at fault ≡ ReadFault)
anew_quietly to at (rebase.Behind end) is = cc
anew_quietly to at rebase.OtherLog is = cc
anew_quietly to at (rebase.Passed reached) is = cc
anew_quietly to at rebase.Memory is = cc

other_quietly : (m : MirrorLogData) (rows : List RowData) (to at : ℕ) (why : ClusterNo) (new : MirrorLogData) → TellsOther m rows to at why new → ¬ (why ≡ ReadFault)
other_quietly m rows to at why new (inl (key, why_is, differs)) is = cc (why_is, is)
other_quietly m rows to at why new (inr (inl (why_is, nowhere))) is = cc (why_is, is)
other_quietly m rows to at why new (inr (inr (fault, why_is, store))) is = anew_quietly to at fault (sym why_is ∙ is)

named_quietly : (m : MirrorLogData) (rows : List RowData) (to at : ℕ) (fault : RebaseNo) (why : ClusterNo) (new : MirrorLogData) → NamesRefusal m rows to at fault why new → ¬ (why ≡ ReadFault)
named_quietly m rows to at (rebase.Behind end) why new named is = anew_quietly to at (rebase.Behind end) (sym named ∙ is)
named_quietly m rows to at rebase.OtherLog why new named is = other_quietly m rows to at why new named is
named_quietly m rows to at (rebase.Passed reached) why new named is = anew_quietly to at (rebase.Passed reached) (sym named ∙ is)
named_quietly m rows to at rebase.Memory why new named is = anew_quietly to at rebase.Memory (sym named ∙ is)

-- a list that isn't taken is no fault of the source
pub taken_quietly : (old : ClusterData) (list : ListData) (result : Result (Unit {0}) ClusterNo) (new : ClusterData) (before after : ℕ) → TakesList old list result new → after ≡ before → CountsSource result before after
taken_quietly old list (Ok u) new before after takes same = same
taken_quietly old list (Err why) new before after (stays, untaken) same =
    quiet (Unit {0}) why before after (named_quietly untaken.between list.rows (end_of old.log) list.at untaken.fault why (mirror_log new) untaken.named) same

-- ---- following anew

-- a mirror of which nothing is kept follows from its own end
pub resumed_follows : (A : Type 0) (result : Result A ClusterNo) (old after : ClusterData) → after.selection ≡ old.selection → after.log ≡ old.log → after.kept ≡ []
    → OnOk result ((peer : Log) (b : ℕ) → IsMirrorOf peer old.selection b old.log → FollowsCluster peer b (end_of old.log) [] after)
resumed_follows A (Err why) old after of log_is none = tt
resumed_follows A (Ok v) old after of log_is none = λ peer b mirrors.
    subst (λ (s : Selection). Follows peer s b (end_of old.log) [] after.log after.kept) (sym of)
    (subst (λ (l : Log). Follows peer old.selection b (end_of old.log) [] l after.kept) (sym log_is)
    (subst (λ (kept : List TransitionData). Follows peer old.selection b (end_of old.log) [] old.log kept) (sym none) (followings_resume peer b old.selection old.log mirrors)))
