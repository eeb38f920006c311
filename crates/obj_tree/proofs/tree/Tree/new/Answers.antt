use Rattle.std.proofs.Common.{refl, arith}
use Rattle.obj_tree.proofs.NodeLemmas.{none_noded}
use Rattle.obj_tree.proofs.tree.Tree.new.Goals as goal

pub invariant_of-result : goal.invariant_of-result
invariant_of-result c = rw (c.in_ok-new.ensures.ok, c.new.ensures.items) (none_noded, refl, omega arith)
