use Rattle.std.proofs.Common.{ℕ, List, subst}
use Rattle.obj_tree.specs.Words.{HaveFours}
use Rattle.obj_tree.proofs.column.Column.insert.Goals as goal

pub invariant_of-self-2 : goal.invariant_of-self-2
invariant_of-self-2 c = subst (λ (words : List ℕ). HaveFours c.fours_of-self-inside.result words) c.deref.ensures.value c.fours_of-self-inside.ensures
