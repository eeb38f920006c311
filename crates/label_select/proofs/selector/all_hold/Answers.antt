use Rattle.std.proofs.Common.{All, refl, subst}
use Rattle.std.proofs.lemmas.List.{take_all}
use Rattle.std.proofs.lemmas.List.Elements.{All-more}
use Rattle.label_select.specs.Meaning.{Holds}
use Rattle.label_select.proofs.selector.all_hold.Goals as goal

pub loop-requirement-preserved : goal.loop-requirement-preserved
loop-requirement-preserved c =
    let d = c.requirement-item.result in
    All-more (Holds c.args.labels.now) c.args.requirements.now c.loop-requirement.requirement-index d c.loop-requirement-test.true c.loop-requirement.invariant (rw (← c.requirement-item.is) (c.holds.ensures.0 c.if-not-holds.false))

pub returns : goal.returns
returns c =
    (λ _. subst (All (Holds c.args.labels.now)) (take_all c.loop-requirement.requirement-index c.args.requirements.now c.loop-requirement-test.false) c.loop-requirement.invariant, λ _. refl)
