use Rattle.std.proofs.Common.{ℕ, List, subst}
use Rattle.obj_tree.specs.Words.{HaveFours}
use Rattle.obj_tree.proofs.column.Column.of.Goals as goal

pub invariant_of-result : goal.invariant_of-result
invariant_of-result c = subst (λ (words : List ℕ). HaveFours c.fours_of-fours.result words) c.deref.ensures.value c.fours_of-fours.ensures
