use Rattle.std.proofs.Common.{drop}
use Rattle.std.specs.BTreeMap.{values}
use Rattle.body_check.specs.Turns.{ArePassed}
use Rattle.body_check.proofs.held.pass.Given as goal

-- those so far are passed
abbrev pub invariant-loop-n : goal.invariant-loop-n
invariant-loop-n l = ArePassed (values l.rows) l.below l.left (drop l.n l.left)
