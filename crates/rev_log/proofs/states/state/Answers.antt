-- One more revision is one more step of the fold, and at the end they are all.
use Rattle.std.proofs.Common.{◌≡◌, take, fold, ap}
use Rattle.rev_log.specs.Rows.{Holds, row_next_upto}
use Rattle.rev_log.specs.States.{row_in_base}
use Rattle.rev_log.proofs.MapLemmas.{Holds-same, fold_step, take_all}
use Rattle.rev_log.proofs.StateLemmas.{IsStateAt-values, if_ok}
use Rattle.rev_log.proofs.states.state.Goals as goal

pub loop-revision-preserved : goal.loop-revision-preserved
loop-revision-preserved c =
    let step = c.in_ok-apply_upto.ensures (λ key. fold (row_next_upto c.args.resource c.args.at key) (row_in_base c.args.base.now c.args.resource key) (take c.loop-revision.revision-index c.args.log.now)) c.loop-revision.invariant in
    Holds-same c.apply_upto.new.rows _ _ (λ key. fold_step (row_next_upto c.args.resource c.args.at key) (row_in_base c.args.base.now c.args.resource key) c.args.log.now c.loop-revision.revision-index c.revision-item.result c.loop-revision-test.true c.revision-item.is) step

pub returns : goal.returns
returns c =
    let whole : take c.loop-revision.revision-index c.args.log.now ≡ c.args.log.now = take_all c.args.log.now c.loop-revision.revision-index c.loop-revision-test.false in
    let holds : Holds c.loop-revision.rows (λ key. fold (row_next_upto c.args.resource c.args.at key) (row_in_base c.args.base.now c.args.resource key) c.args.log.now) =
    Holds-same c.loop-revision.rows _ _ (λ key. ap (fold (row_next_upto c.args.resource c.args.at key) (row_in_base c.args.base.now c.args.resource key)) whole) c.loop-revision.invariant in
    if_ok c.rows_in_order.result (λ list items first numbered. IsStateAt-values c.loop-revision.rows c.args.base.now c.args.log.now c.args.resource c.args.at first list.items numbered holds items) c.rows_in_order.ensures
