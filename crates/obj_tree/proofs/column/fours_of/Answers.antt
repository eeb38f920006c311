use Rattle.std.proofs.Common.{get_or, inl, inr, arith}
use Rattle.std.proofs.lemmas.Bool.{cases_eq}
use Rattle.obj_tree.specs.Words.{four_at}
use Rattle.obj_tree.proofs.column.fours_of.Goals as goal

pub loop-at-preserved : goal.loop-at-preserved
loop-at-preserved c = λ k lt. elim (cases_eq k c.loop-at.at) [
  | inl last ↦ rw last c.add.ensures.has
  | inr before ↦ c.add.ensures.keeps (four_at k) (get_or c.args.words.now k 0) (c.loop-at.invariant k (omega (arith, lt, before)))
]
