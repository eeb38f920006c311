use Rattle.std.proofs.Common.{◌∙◌, sym, ap, arith}
use Rattle.std.specs.BTreeMap.{get}
use Rattle.std.specs.Cmp.Lexicographic.{slice_cmp}
use Rattle.std.specs.Ordering.{nat_cmp}
use Rattle.body_check.specs.Moves.{told_change}
use Rattle.body_check.proofs.MoveLemmas.{told_some, told_none}
use Rattle.body_check.proofs.moves.add_moves.Goals.{in-Some+in_ok-push, in_default}
use Rattle.body_check.proofs.moves.add_moves.Goals as goal

pub loop-change-preserved : goal.loop-change-preserved
loop-change-preserved c =
    let tells = told_change c.args.selection.now (get (slice_cmp nat_cmp) c.args.rows.now) c.args.rev in
    elim c.match-branch-2.branch [
      | in-Some+in_ok-push w ↦ told_some tells c.args.changes.now c.loop-change.change-index c.change-item.result w.in-Some.told c.args.moves.now.items c.loop-change.moves.items c.match-branch-2.moves.items (omega arith) c.change-item.is
          (sym c.in_ok-told.ensures ∙ w.in-Some.is) c.loop-change.invariant (ap (λ v. v.items) w.moves-is ∙ w.in_ok-push.ensures.items)
      | in_default w ↦ ap (λ v. v.items) w.moves-is ∙ told_none tells c.args.changes.now c.loop-change.change-index c.change-item.result c.args.moves.now.items c.loop-change.moves.items (omega arith) c.change-item.is
          (sym c.in_ok-told.ensures ∙ w.in_default.is) c.loop-change.invariant
    ]
