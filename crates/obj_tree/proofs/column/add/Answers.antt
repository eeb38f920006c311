use Rattle.obj_tree.proofs.WordLemmas.{added_has, added_keeps}
use Rattle.obj_tree.proofs.column.add.Goals as goal

pub returns-clause-has : goal.returns-clause-has
returns-clause-has c = added_has c.args.fours.now c.args.at c.args.word c.told-fours

pub returns-clause-keeps : goal.returns-clause-keeps
returns-clause-keeps c = λ four mask had. added_keeps c.args.fours.now c.args.at c.args.word c.told-fours four mask had
