use Rattle.std.proofs.Common.{List, Some, subst}
use Rattle.kube_meta.specs.Rows.{RowData}
use Rattle.mirror_log.specs.Bridges.{FindsOther}
use Rattle.mirror_log.proofs.OtherLemmas.{found_other}
use Rattle.mirror_log.proofs.log.MirrorLog.different_row.Goals as goal

pub returns-in-Some-clause-found : goal.returns-in-Some-clause-found
returns-in-Some-clause-found g c =
    let first = subst (λ (l : List RowData). FindsOther c.to-to.result l c.args.rows.now (Some c.in-Some.row.now)) c.deref.ensures.value c.in-Some.ensures in
    found_other c.args.self.now c.args.rows.now c.in_ok-standing.standing.items c.to-to.result c.in-Some.row.now c.in_ok-key-in-Some.key c.in_ok-standing.ensures.rows c.to-to.ensures.answer first c.in_ok-key-in-Some.ensures
