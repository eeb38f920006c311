-- The next row is put, or isn't younger; where its revision has no room, that has too many.
use Rattle.std.proofs.Common.{◌≡◌, ◌+◌, ◌<◌, ◌≤◌, take, sym, ap, subst, arith}
use Rattle.kube_meta.specs.Rows.{RowData}
use Rattle.mirror_log.specs.Slots.{Hold, puts}
use Rattle.mirror_log.proofs.SlotLemmas.{put_step, put_old, put_full}
use Rattle.mirror_log.proofs.slots.put_all.Goals as goal
use Rattle.mirror_log.proofs.slots.put_all.Goals.{then-row-from+in_ok-change+in-Ok, else-row-from}

pub returns-in-Err-clause-full : goal.returns-in-Err-clause-full
returns-in-Err-clause-full c = λ is.
    let young : c.args.from < c.row-item.result.rev = omega (arith, c.if-row-from.true, ap (λ (r : RowData). r.rev) c.row.view_is) in
    put_full c.args.resource c.args.from c.args.rows.now c.loop-row.row-index c.row-item.result c.in_ok-change.change c.loop-row.slots.entries
    c.loop-row-test.true c.row-item.is young c.in_ok-change.ensures c.loop-row.invariant (c.in-Err.ensures.full is)

pub loop-row-preserved : goal.loop-row-preserved
loop-row-preserved c = elim c.if-row-from.branch [
  | then-row-from+in_ok-change+in-Ok w ↦
      let young : c.args.from < c.row-item.result.rev = omega (arith, w.if-row-from.true, ap (λ (r : RowData). r.rev) c.row.view_is) in
      let hold : Hold w.add.new.slots.entries (puts c.args.resource c.args.from (take (c.loop-row.row-index + 1) c.args.rows.now)) =
      put_step c.args.resource c.args.from c.args.rows.now c.loop-row.row-index c.row-item.result w.in_ok-change.change c.loop-row.slots.entries w.add.new.slots.entries
      c.loop-row-test.true c.row-item.is young w.in_ok-change.ensures c.loop-row.invariant w.in-Ok.ensures.added in
      rw w.slots-is hold
  | else-row-from w ↦
      let old : c.row-item.result.rev ≤ c.args.from = omega (arith, w.if-row-from.false, ap (λ (r : RowData). r.rev) c.row.view_is) in
      let same : puts c.args.resource c.args.from (take (c.loop-row.row-index + 1) c.args.rows.now) ≡ puts c.args.resource c.args.from (take c.loop-row.row-index c.args.rows.now) =
      put_old c.args.resource c.args.from c.args.rows.now c.loop-row.row-index c.row-item.result c.loop-row-test.true c.row-item.is old in
      rw w.slots-is (subst (Hold c.loop-row.slots.entries) (sym same) c.loop-row.invariant)
]
