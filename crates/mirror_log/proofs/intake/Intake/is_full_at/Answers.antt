use Rattle.std.proofs.Common.{◌+◌, eqb, length, subst, ap, ◌∙◌, arith}
use Rattle.std.proofs.lemmas.Bool.{lt-leb}
use Rattle.mirror_log.specs.Intakes.{IntakeData, IsIntake}
use Rattle.mirror_log.proofs.IntakeLemmas.{full_at, not_full_at}
use Rattle.mirror_log.proofs.intake.Intake.is_full_at.Goals as goal

pub returns-then-len-ge-MOST_KEPT : goal.returns-then-len-ge-MOST_KEPT
returns-then-len-ge-MOST_KEPT c =
    let is : IsIntake c.args.self.now = subst IsIntake c.self.view_is c.self.invariant in
    let size = ap (λ (i : IntakeData). length i.kept) c.self.view_is in
    ap (λ (i : IntakeData). eqb c.args.rev (i.to + 1)) c.self.view_is
    ∙ full_at c.args.self.now.to c.args.rev c.args.self.now.kept is.next (omega (arith, c.if-len-ge-MOST_KEPT.true, c.len.ensures, size, c.self.inside.kept.ok.0))

pub returns-else-len-ge-MOST_KEPT : goal.returns-else-len-ge-MOST_KEPT
returns-else-len-ge-MOST_KEPT c =
    let is : IsIntake c.args.self.now = subst IsIntake c.self.view_is c.self.invariant in
    let size = ap (λ (i : IntakeData). length i.kept) c.self.view_is in
    lt-leb 64 c.len.result (omega (arith, c.if-len-ge-MOST_KEPT.false))
    ∙ not_full_at c.args.self.now.to c.args.rev c.args.self.now.kept is.next (omega (arith, c.if-len-ge-MOST_KEPT.false, c.len.ensures, size, c.self.inside.kept.ok.0))
