-- One more change is one more step, and at the end they are all. Where one can't be made, those before it are.
use Rattle.std.proofs.Common.{List, take, fold, sym, subst, arith}
use Rattle.kube_meta.specs.Rows.{RowData}
use Rattle.rev_log.specs.States.{row_after}
use Rattle.rev_log.proofs.MapLemmas.{on_err}
use Rattle.up_store.specs.Kept.{AreStepped}
use Rattle.up_store.specs.Shared.{shared_row, made_row}
use Rattle.up_store.proofs.StepLemmas.{stepped-none, stepped-more, stepped-all}
use Rattle.up_store.proofs.TransactLemmas.{mapped-at}
use Rattle.up_store.proofs.changes.make_each.Goals as goal

pub loop-i-init : goal.loop-i-init
loop-i-init c = stepped-none (λ key. row_after c.args.resource key c.args.rev) c.args.rows.now c.args.changes.now

pub make_change-requires : goal.make_change-requires
make_change-requires c = mapped-at shared_row (made_row c.args.rev) c.args.made.now c.args.changes.now c.loop-i.i c.index-made-i.result c.index-changes-i.result c.requires (omega arith) c.index-made-i.is c.index-changes-i.is

pub loop-i-preserved : goal.loop-i-preserved
loop-i-preserved c =
    stepped-more (λ key. row_after c.args.resource key c.args.rev) c.args.rows.now c.loop-i.rows c.make_change.new.rows c.args.changes.now c.loop-i.i c.index-changes-i.result (omega arith) c.index-changes-i.is
    c.loop-i.invariant c.in_ok-make_change.ensures.done

pub returns-in_err-make_change-clause-partly : goal.returns-in_err-make_change-clause-partly
returns-in_err-make_change-clause-partly c =
    on_err c.from_residual.result (
      c.loop-i.i,
      subst (λ (rows : List RowData). AreStepped c.args.rows.now rows (λ key row. fold (row_after c.args.resource key c.args.rev) row (take c.loop-i.i c.args.changes.now)))
          (sym c.in_err-make_change.ensures.kept) c.loop-i.invariant,
    )

pub returns-clause-done : goal.returns-clause-done
returns-clause-done c = stepped-all (λ key. row_after c.args.resource key c.args.rev) c.args.rows.now c.loop-i.rows c.args.changes.now c.loop-i.i (omega arith) c.loop-i.invariant
