-- What sessions know is a peer's log.
use Rattle.std.proofs.Common.{◌≤◌, List, [], sym, subst, arith, append-nil}
use Rattle.std.specs.List.Sorted.{IsStrictlySortedBy}
use Rattle.std.proofs.lemmas.List.Elements.{All-nil}
use Rattle.kube_meta.specs.Rows.{RowData, AreRising}
use Rattle.mirror_law.proofs.ObjectLemmas.{told_objects}
use Rattle.rev_front.specs.Passes.{Pass, IsPass}
use Rattle.rev_log.specs.Changes.{RevisionData}
use Rattle.rev_log.specs.Laws.{FittingLogsAreLogs}
use Rattle.rev_log.specs.Logs.{IsLog, Fits}
use Rattle.sess_turns.specs.Turns.{watch_lines}
use Rattle.sess_turns.proofs.BodyLemmas.{turns_tell}
use Rattle.up_api.specs.Sections.{log_of}
use Rattle.watch_lines.specs.Stored.{IsStored}
use Rattle.watch_rules.specs.Bodies.{Line, TellsBody, BeginsBody}
use Rattle.laws.specs.SessionPeers.{LogsArePeers, ToldObjectsAreStored}

none_rise : AreRising []
unfolding IsStrictlySortedBy
none_rise = tt

from_nothing : FittingLogsAreLogs → (p : Pass RevisionData) → IsPass Fits p → IsLog (log_of [] p)
from_nothing logs p pass = logs (log_of [] p) pass.fitting none_rise (All-nil (λ (row : RowData). row.rev ≤ p.first)) (omega (arith, pass.within, pass.bounded.0))

pub logs_are_peers : FittingLogsAreLogs → LogsArePeers
logs_are_peers logs base p s none pass holds = record {
  log = subst (λ (rows : List RowData). IsLog (log_of rows p)) (sym none) (from_nothing logs p pass);
  stored = holds s.resource;
}

pub told_objects_are_stored : ToldObjectsAreStored
told_objects_are_stored terms p opened q ask watch start turns holds =
    let lines : List Line = watch_lines terms ask opened watch in
    let tells = turns_tell terms p opened q ask watch start turns in
    let begins : BeginsBody (log_of terms.base q) q.floor terms.window ask watch.begun.at lines =
    ([], turns.last.position, subst (λ (l : List Line). TellsBody (log_of terms.base q) q.floor terms.window ask watch.begun.at l turns.last.position) (sym (append-nil lines)) tells) in
    told_objects (IsStored ask.selection.resource) (log_of terms.base q) q.floor terms.window watch.begun.at ask lines (holds ask.selection.resource) begins
