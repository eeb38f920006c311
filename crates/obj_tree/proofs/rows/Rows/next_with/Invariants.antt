use Rattle.std.proofs.Common.{◌≡◌, length}
use Rattle.obj_tree.specs.Words.{from_fit}
use Rattle.obj_tree.proofs.rows.Rows.next_with.Given as goal

-- what was passed over so far doesn't fit the mask
abbrev pub invariant-loop-rest : goal.invariant-loop-rest
invariant-loop-rest l = from_fit l.mask l.self ≡ from_fit l.mask l.fn.self

abbrev pub decreases-loop-rest : goal.decreases-loop-rest
decreases-loop-rest l = length l.self
