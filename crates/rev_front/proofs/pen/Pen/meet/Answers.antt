use Rattle.std.proofs.Common.{ap, ◌∙◌, subst}
use Rattle.rev_front.specs.Passes.{Covers, Met, pass_from}
use Rattle.rev_front.proofs.Handles.{covers_reseated, briefed_by}
use Rattle.rev_front.proofs.pen.Pen.meet.Goals as goal

pub returns-clause-told : goal.returns-clause-told
returns-clause-told g c =
    let w = c.args.self.now in
    let p = c.args.told.now in
    let known = subst (λ v. Covers v c.tell.result) c.hear.ensures.same c.hear.ensures.covered in
    let covers = covers_reseated w p c.tell.result.seat (subst (Covers w) c.tell.ensures.copy known) in
    let news = c.tell-2.ensures.pass ∙ ap (λ v. pass_from v c.tell-2.result.seat) c.hear.ensures.same in
    let met = subst (λ x. Met x c.tell-2.result c.hear-2.new.self) c.tell.ensures.same c.hear-2.ensures.met in
    briefed_by w p c.hear-2.new.self c.tell-2.result.seat covers (subst (λ o. Met p o c.hear-2.new.self) news met)
