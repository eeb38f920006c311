-- The first that doesn't stand; until then all do.
use Rattle.std.proofs.Common.{◌≡◌, ◌≤◌, true, false, refl, ap, subst, arith}
use Rattle.kube_meta.specs.Rows.{RowData}
use Rattle.mirror_log.specs.Bridges.{AreKept, IsKept}
use Rattle.mirror_log.proofs.OtherLemmas.{kept_more, first_is}
use Rattle.mirror_log.proofs.SlotLemmas.{take_whole}
use Rattle.mirror_log.proofs.find.first_other.Goals as goal
use Rattle.mirror_log.proofs.find.first_other.Goals.{else-row-from-via-then-row-from+else-not-is_kept, else-row-from-via-else-row-from}

pub returns-then-not-is_kept : goal.returns-then-not-is_kept
returns-then-not-is_kept c =
    let written : c.row-item.result.rev ≤ c.args.from = omega (arith, c.if-row-from.true, ap (λ (r : RowData). r.rev) c.row.view_is) in
    first_is c.args.from c.args.old.now c.args.rows.now c.loop-row.row-index c.row-item.result c.loop-row-test.true c.row-item.is c.loop-row.invariant written
    (λ (kept : IsKept c.args.old.now c.row-item.result). let bad : false ≡ true = c.if-not-is_kept.ensures.1 kept in cc)

pub loop-row-preserved : goal.loop-row-preserved
loop-row-preserved c = elim c.else-row-from.branch [
  | else-row-from-via-then-row-from+else-not-is_kept w ↦
      kept_more c.args.from c.args.old.now c.args.rows.now c.loop-row.row-index c.row-item.result c.loop-row-test.true c.row-item.is c.loop-row.invariant (λ written. w.if-not-is_kept.ensures.0 refl)
  | else-row-from-via-else-row-from w ↦
      kept_more c.args.from c.args.old.now c.args.rows.now c.loop-row.row-index c.row-item.result c.loop-row-test.true c.row-item.is c.loop-row.invariant
      (λ written. absurd (omega (arith, written, w.if-row-from.false, ap (λ (r : RowData). r.rev) c.row.view_is)))
]

pub returns : goal.returns
returns c = subst (AreKept c.args.from c.args.old.now) (take_whole c.args.rows.now c.loop-row.row-index c.loop-row-test.false) c.loop-row.invariant
