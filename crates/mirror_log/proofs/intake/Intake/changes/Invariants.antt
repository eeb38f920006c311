use Rattle.std.proofs.Common.{◌≡◌, map, take}
use Rattle.mirror_law.specs.Mirrors.{change_told}
use Rattle.mirror_log.proofs.intake.Intake.changes.Given as goal

-- the changes of the lines so far
abbrev pub invariant-loop-line : goal.invariant-loop-line
invariant-loop-line l = l.changes.items ≡ map (change_told l.resource) (take l.line-index l.line-items)
