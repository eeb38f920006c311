use Rattle.std.proofs.Common.{None, take, ap, ◌∙◌}
use Rattle.rev_log.specs.States.{row_next}
use Rattle.rev_log.proofs.MapLemmas.{Holds-same, fold_step}
use Rattle.body_check.proofs.MoveLemmas.{told_seen}
use Rattle.body_check.specs.Moves.{standing}
use Rattle.body_check.proofs.moves.moves_of.Goals as goal

pub loop-revision-preserved : goal.loop-revision-preserved
loop-revision-preserved c =
    let resource = c.args.selection.now.resource in
    let log = c.args.log.now in
    let i = c.loop-revision.revision-index in
    let step = c.in_ok-make_changes.ensures.done (standing resource (take i log)) c.loop-revision.invariant.rows in
    record {
      rows = Holds-same c.make_changes.new.rows _ _ (λ key. fold_step (row_next resource key) None log i c.revision-item.result c.loop-revision-test.true c.revision-item.is) step;
      told = told_seen c.args.selection.now log i c.revision-item.result c.loop-revision.rows c.revision.inside.rev c.deref.result.now c.loop-revision.moves.items c.add_moves.new.moves.items
          c.loop-revision-test.true c.revision-item.is c.loop-revision.invariant.rows c.loop-revision.invariant.told
          (ap (λ xs. record { rev = c.revision.inside.rev; changes = xs }) c.deref.ensures.value ∙ c.revision.view_is) c.in_ok-add_moves.ensures;
    }
