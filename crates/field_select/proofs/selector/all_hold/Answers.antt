use Rattle.std.proofs.Common.{All, refl, subst}
use Rattle.std.proofs.lemmas.List.{take_all}
use Rattle.std.proofs.lemmas.List.Elements.{All-more}
use Rattle.field_select.specs.Meaning.{Holds}
use Rattle.field_select.proofs.selector.all_hold.Goals as goal

pub loop-term-preserved : goal.loop-term-preserved
loop-term-preserved c =
    let d = c.term-item.result in
    All-more (Holds c.args.fields.now c.args.key.now) c.args.terms.now c.loop-term.term-index d c.loop-term-test.true c.loop-term.invariant (rw (← c.term-item.is) (c.holds.ensures.0 c.if-not-holds.false))

pub returns : goal.returns
returns c =
    (λ _. subst (All (Holds c.args.fields.now c.args.key.now)) (take_all c.loop-term.term-index c.args.terms.now c.loop-term-test.false) c.loop-term.invariant, λ _. refl)
