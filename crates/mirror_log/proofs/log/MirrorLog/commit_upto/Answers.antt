use Rattle.std.proofs.Common.{ap, arith}
use Rattle.rev_log.specs.Logs.{end_of}
use Rattle.mirror_log.specs.MirrorLogs.{MirrorLogData}
use Rattle.mirror_log.proofs.MoveLemmas.{moves_none}
use Rattle.mirror_log.proofs.log.MirrorLog.commit_upto.Goals as goal

pub returns-then-to-upto-clause-commits : goal.returns-then-to-upto-clause-commits
returns-then-to-upto-clause-commits g c = (
  moves_none c.args.self.now,
  omega (arith, c.if-to-upto.true, c.to.ensures.answer, c.self.invariant.at.end, ap (λ (m : MirrorLogData). end_of m.log) c.self.view_is),
)
