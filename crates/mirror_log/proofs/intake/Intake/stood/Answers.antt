use Rattle.std.proofs.Common.{subst, ap, ◌∙◌, arith}
use Rattle.mirror_log.specs.Intakes.{IntakeData, IsIntake}
use Rattle.mirror_log.proofs.IntakeLemmas.{stood_later, stood_here}
use Rattle.mirror_log.proofs.intake.Intake.stood.Goals as goal

pub returns-then-self-rev : goal.returns-then-self-rev
returns-then-self-rev c = λ log at.
    let to = ap (λ (i : IntakeData). i.to) c.self.view_is in
    c.will_stand.ensures log at ∙ stood_later c.args.self.now (subst IsIntake c.self.view_is c.self.invariant) log at c.args.key.now c.args.rev (omega (arith, to, c.if-self-rev.true))

pub returns-else-self-rev : goal.returns-else-self-rev
returns-else-self-rev c = λ log at.
    let to = ap (λ (i : IntakeData). i.to) c.self.view_is in
    c.stands.ensures log at ∙ stood_here c.args.self.now (subst IsIntake c.self.view_is c.self.invariant) log at c.args.key.now c.args.rev (omega (arith, to, c.if-self-rev.false))
