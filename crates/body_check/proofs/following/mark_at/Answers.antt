use Rattle.std.proofs.Common.{◌≡◌, ◌∙◌, sym}
use Rattle.std.proofs.lemmas.Bool.{iff_false}
use Rattle.body_check.proofs.LineLemmas.{marks_none, marks_then, marks_else}
use Rattle.body_check.proofs.following.mark_at.Goals as goal

pub returns-in_default : goal.returns-in_default
returns-in_default c =
    let is : c.as_bytes.result.now ≡ c.args.line.now = c.as_bytes.ensures.value ∙ c.as_str.ensures in
    marks_none c.args.case.now c.args.low c.args.high c.args.line.now (λ n le e. c.in_default.ensures n le (is ∙ e))

pub returns-then-is_from : goal.returns-then-is_from
returns-then-is_from c =
    let is : c.as_bytes.result.now ≡ c.args.line.now = c.as_bytes.ensures.value ∙ c.as_str.ensures in
    marks_then c.args.case.now c.args.low c.args.high c.args.line.now c.in-Some.at c.end_of.result c.up_to.result c.if-not-case.false c.in-Some.ensures.0 (sym is ∙ c.in-Some.ensures.1)
    (c.is_from.ensures.0 c.if-is_from.true) c.end_of.ensures c.up_to.ensures

pub returns-else-is_from : goal.returns-else-is_from
returns-else-is_from c =
    let is : c.as_bytes.result.now ≡ c.args.line.now = c.as_bytes.ensures.value ∙ c.as_str.ensures in
    marks_else c.args.case.now c.args.low c.args.high c.args.line.now c.in-Some.at c.in-Some.ensures.0 (sym is ∙ c.in-Some.ensures.1) (iff_false c.is_from.ensures c.if-is_from.false)
