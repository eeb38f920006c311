use Rattle.std.proofs.Common.{refl, sym, ◌∙◌, arith}
use Rattle.obj_tree.proofs.column.lack_of.Goals as goal

pub returns-then-has_bits-clause-lack : goal.returns-then-has_bits-clause-lack
returns-then-has_bits-clause-lack c = λ some. absurd (omega (arith, some))

pub returns-clause-has : goal.returns-clause-has
returns-clause-has c = λ none. absurd (omega (arith, none))

pub returns-clause-lack : goal.returns-clause-lack
returns-clause-lack c = λ some. (refl, sym c.has_bits.ensures ∙ c.if-has_bits.false)
