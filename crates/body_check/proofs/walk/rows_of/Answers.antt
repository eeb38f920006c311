use Rattle.std.proofs.Common.{take, ap}
use Rattle.kube_meta.specs.Rows.{row_with}
use Rattle.rev_log.proofs.MapLemmas.{Holds-same, row_with_more, take_all}
use Rattle.body_check.proofs.walk.rows_of.Goals as goal

pub loop-row-preserved : goal.loop-row-preserved
loop-row-preserved c =
    let rows = c.args.rows.now in
    let i = c.loop-row.row-index in
    Holds-same c.put_first.new.rows _ _ (λ key. row_with_more rows i c.row-item.result key c.loop-row-test.true c.row-item.is) (c.in_ok-put_first.ensures (row_with (take i rows)) c.loop-row.invariant)

pub returns : goal.returns
returns c =
    Holds-same c.loop-row.table _ _ (λ key. ap (λ rows. row_with rows key) (take_all c.args.rows.now c.loop-row.row-index c.loop-row-test.false)) c.loop-row.invariant
