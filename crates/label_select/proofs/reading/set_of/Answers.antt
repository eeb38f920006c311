use Rattle.std.proofs.Common.{◌∙◌}
use Rattle.label_select.specs.Left.{left}
use Rattle.label_select.proofs.Loops.{set_inside}
use Rattle.label_select.proofs.reading.set_of.Goals as goal

pub returns : goal.returns
returns c =
    let same = c.takes-2.ensures.end ∙ c.takes.ensures.end in
    let e = set_inside c.args.tokens.now.end (left c.args.tokens.now) (left c.takes.new.self) (left c.takes-2.new.self) c.if-not-takes.ensures.steps c.if-takes.ensures.steps in
    (c.values_of.ensures.0 ∙ same, rw (e, ← same) c.values_of.ensures.1)
