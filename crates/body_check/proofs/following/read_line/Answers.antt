use Rattle.std.proofs.Common.{◌≡◌, ◌∙◌, sym, ap, arith}
use Rattle.std.proofs.lemmas.Bool.{iff_false}
use Rattle.kube_meta.specs.declared.objects.Obj.{Obj}
use Rattle.select_all.specs.Streams.{TransitionData}
use Rattle.body_check.proofs.LineLemmas.{goes_first, not_first, no_first, goes_marked, ends_lost, is_bad}
use Rattle.body_check.proofs.following.read_line.Goals.{in_default, in-len1-up+else-tells}
use Rattle.body_check.proofs.following.read_line.Goals as goal

pub returns-then-tells : goal.returns-then-tells
returns-then-tells c =
    let is : c.as_bytes.result.now ≡ c.args.line.now = c.as_bytes.ensures.value ∙ c.as_str.ensures in
    let move_of : Obj → TransitionData = λ obj. record { kind = c.first.inside.kind; obj = obj; rev = c.first.inside.rev } in
    goes_first c.args.case.now c.args.at c.args.untold.now c.args.low c.args.line.now c.first-item.result c.first.inside.kind c.deref.result.now c.first.inside.rev c.in-len1-up.len_at_least c.first-item.is
    (ap move_of c.deref.ensures ∙ c.first.view_is) (sym is ∙ c.tells.ensures.0 c.if-tells.true) c.requires

pub returns-in-Some : goal.returns-in-Some
returns-in-Some c = goes_marked c.args.case.now c.args.at c.args.untold.now c.args.low c.highest_at-high.result c.args.line.now c.in-Some.position c.highest_at-high.ensures c.in-Some.ensures c.requires

pub returns-in-Some-loss_at : goal.returns-in-Some-loss_at
returns-in-Some-loss_at c = ends_lost c.args.case.now c.args.at c.args.untold.now c.args.low c.highest_at-high.result c.args.line.now c.in-Some-loss_at.position c.highest_at-high.ensures c.in-Some-loss_at.ensures

pub returns-in-None : goal.returns-in-None
returns-in-None c =
    is_bad c.args.case.now c.args.at c.args.untold.now c.args.low c.highest_at-high.result c.args.line.now c.highest_at-high.ensures c.requires
    (elim c.if-untold-lt1.branch [
      | in_default w ↦ no_first c.args.case.now c.args.at c.args.untold.now c.args.line.now (omega arith)
      | in-len1-up+else-tells w ↦
          let is : w.as_bytes.result.now ≡ c.args.line.now = w.as_bytes.ensures.value ∙ w.as_str.ensures in
          let move_of : Obj → TransitionData = λ obj. record { kind = w.first.inside.kind; obj = obj; rev = w.first.inside.rev } in
          not_first c.args.case.now c.args.at c.args.untold.now c.args.line.now w.first-item.result w.first.inside.kind w.deref.result.now w.first.inside.rev w.first-item.is
          (ap move_of w.deref.ensures ∙ w.first.view_is) (λ e. iff_false w.tells.ensures w.if-tells.false (is ∙ e))
    ])
    c.in_default-mark_at.ensures c.in-None.ensures
