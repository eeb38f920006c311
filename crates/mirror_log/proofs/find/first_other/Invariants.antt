use Rattle.std.proofs.Common.{take}
use Rattle.mirror_log.specs.Bridges.{AreKept}
use Rattle.mirror_log.proofs.find.first_other.Given as goal

-- the rows so far aren't other ones
abbrev pub invariant-loop-row : goal.invariant-loop-row
invariant-loop-row l = AreKept l.from l.old (take l.row-index l.rows)
