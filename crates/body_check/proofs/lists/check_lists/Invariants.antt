use Rattle.std.proofs.Common.{take}
use Rattle.body_check.specs.Heard.{IsWalking}
use Rattle.body_check.proofs.lists.check_lists.Given as goal

-- the texts so far are walked
abbrev pub invariant-loop-n : goal.invariant-loop-n
invariant-loop-n l = IsWalking l.case (take l.n l.case.texts) l.walk
