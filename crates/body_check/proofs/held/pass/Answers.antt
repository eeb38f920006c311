use Rattle.std.proofs.Common.{◌<◌, refl, ap, ◌∙◌, sym, arith}
use Rattle.std.specs.BTreeMap.{values}
use Rattle.body_check.proofs.TellLemmas.{pass_more}
use Rattle.body_check.proofs.held.pass.Goals as goal

pub loop-n-preserved : goal.loop-n-preserved
loop-n-preserved c =
    pass_more (values c.args.rows.now) c.args.below c.loop-n.n c.args.left.now c.index-left-n.result c.loop-n-test.true c.index-left-n.is
    (omega (arith, c.if-below-list.false, ap (λ l. l.at) c.list.view_is))
    (sym (c.deref.ensures.value ∙ ap (λ l. l.rows) c.list.view_is) ∙ c.if-not-are_all.ensures.0 refl)
    c.loop-n.invariant
