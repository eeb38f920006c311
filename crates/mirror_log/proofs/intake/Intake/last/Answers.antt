use Rattle.std.proofs.Common.{ap, arith}
use Rattle.mirror_log.specs.Faults.{last_of}
use Rattle.mirror_log.proofs.IntakeLemmas.{last_bound}
use Rattle.mirror_log.proofs.intake.Intake.last.Goals as goal

pub returns-clause-bound : goal.returns-clause-bound
returns-clause-bound c =
    omega (arith, last_bound c.self.inside.to c.self.inside.kept.items c.self.invariant.ends c.self.invariant.next, c.last_of.ensures, ap (last_of c.self.inside.to) c.deref.ensures.value)
