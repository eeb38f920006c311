use Rattle.std.proofs.Common.{◌≡◌, drop}
use Rattle.body_check.specs.Moves.{drop_upto}
use Rattle.body_check.proofs.moves.above.Given as goal

-- what is wanted of all moves is what is wanted of those that are left
abbrev pub invariant-loop-n : goal.invariant-loop-n
invariant-loop-n l = drop_upto l.at l.moves ≡ drop_upto l.at (drop l.n l.moves)
