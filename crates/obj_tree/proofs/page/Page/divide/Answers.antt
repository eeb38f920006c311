use Rattle.std.proofs.Common.{ap, ◌∙◌}
use Rattle.obj_tree.specs.Pages.{row_gone}
use Rattle.obj_tree.proofs.PageLemmas.{taken_out}
use Rattle.obj_tree.proofs.page.Page.divide.Goals as goal

pub returns-in-Err-clause-err : goal.returns-in-Err-clause-err
returns-in-Err-clause-err c =
    c.remove.ensures
    ∙ ap (λ p. row_gone p c.args.place) (c.in-Err.ensures.err ∙ c.in_ok-insert.ensures.ok)
    ∙ taken_out c.args.self.now c.args.place c.args.shown.value c.requires.place
