use Rattle.std.proofs.Common.{List, subst}
use Rattle.obj_tree.specs.declared.mark.Mark.{Mark}
use Rattle.obj_tree.specs.Marks.{IsFirstMark}
use Rattle.obj_tree.proofs.MarkLemmas.{mark_tells}
use Rattle.obj_tree.proofs.mark.unfit_of.Goals as goal

pub returns-in-Some-clause-unfit : goal.returns-in-Some-clause-unfit
returns-in-Some-clause-unfit c =
    mark_tells c.in-Some.mark.now c.args.page.now c.args.from c.args.mask
    (subst (λ (marks : List Mark). IsFirstMark marks c.args.page.now) c.in-Some.ensures.cases.0 c.requires.marks) (c.lacks.ensures c.if-lacks.true) c.requires.from
