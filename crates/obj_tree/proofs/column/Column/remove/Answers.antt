use Rattle.std.proofs.Common.{ℕ, List, subst}
use Rattle.obj_tree.specs.Words.{HaveFours}
use Rattle.obj_tree.proofs.column.Column.remove.Goals as goal

pub invariant_of-self : goal.invariant_of-self
invariant_of-self c = subst (λ (words : List ℕ). HaveFours c.fours_of-self-inside.result words) c.deref.ensures.value c.fours_of-self-inside.ensures
