use Rattle.std.proofs.Common.{◌≡◌, ◌<◌, length, ap, ◌∙◌, sym, subst, arith}
use Rattle.std.proofs.lemmas.List.{length-map}
use Rattle.body_check.proofs.ListLemmas.{broken}
use Rattle.body_check.proofs.lists.judge_loss.Goals as goal

pub returns-then-heard-len : goal.returns-then-heard-len
returns-then-heard-len c =
    let case = c.args.case.now in
    let inside : c.args.heard < length case.texts =
    omega (arith, c.if-heard-len.true, c.len.ensures, ap (λ b. length b.texts) c.case.view_is, length-map c.case.inside.lines.items (λ line. line.now)) in
    broken case c.args.heard c.args.walk inside c.requires.has (c.requires.refused inside)
