-- One more revision is one more step, and at the end they are all.
use Rattle.std.proofs.Common.{List, fold, sym, subst}
use Rattle.kube_meta.specs.Rows.{RowData}
use Rattle.rev_log.specs.States.{row_next}
use Rattle.up_store.specs.Kept.{AreStepped}
use Rattle.up_store.proofs.StepLemmas.{stepped-none, stepped-more, stepped-all}
use Rattle.up_store.proofs.past.made_upon.Goals as goal

pub loop-revision-init : goal.loop-revision-init
loop-revision-init c = stepped-none (row_next c.args.resource) c.args.rows c.args.revisions.now

pub loop-revision-preserved : goal.loop-revision-preserved
loop-revision-preserved c =
    stepped-more (row_next c.args.resource) c.args.rows c.loop-revision.rows c.make_changes.new.rows c.args.revisions.now c.loop-revision.revision-index c.revision-item.result c.loop-revision-test.true c.revision-item.is
    c.loop-revision.invariant c.in_ok-make_changes.ensures.done

pub returns : goal.returns
returns c =
    subst (λ (rows : List RowData). AreStepped c.args.rows rows (λ key row. fold (row_next c.args.resource key) row c.args.revisions.now)) (sym c.into_snapshot.ensures)
    (stepped-all (row_next c.args.resource) c.args.rows c.loop-revision.rows c.args.revisions.now c.loop-revision.revision-index c.loop-revision-test.false c.loop-revision.invariant)
