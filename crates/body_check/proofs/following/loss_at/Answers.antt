use Rattle.std.proofs.Common.{◌≡◌, ◌∙◌, sym}
use Rattle.std.proofs.lemmas.Bool.{iff_false}
use Rattle.body_check.proofs.LineLemmas.{loses_none, loses_then, loses_out}
use Rattle.body_check.proofs.following.loss_at.Goals as goal

pub returns-in_default : goal.returns-in_default
returns-in_default c =
    let is : c.as_bytes.result.now ≡ c.args.line.now = c.as_bytes.ensures.value ∙ c.as_str.ensures in
    loses_none c.args.case.now c.args.low c.args.high c.args.line.now (λ at floor le floor_le e. c.in_default.ensures at floor le floor_le (is ∙ e))

pub returns-then-is_from : goal.returns-then-is_from
returns-then-is_from c =
    let is : c.as_bytes.result.now ≡ c.args.line.now = c.as_bytes.ensures.value ∙ c.as_str.ensures in
    loses_then c.args.case.now c.args.low c.args.high c.args.line.now c.in-Some.at c.in-Some.floor c.borne_out.result c.in-Some.ensures.0 c.in-Some.ensures.1 (sym is ∙ c.in-Some.ensures.2)
    (c.is_from.ensures.0 c.if-is_from.true) c.borne_out.ensures

pub returns-else-is_from : goal.returns-else-is_from
returns-else-is_from c =
    let is : c.as_bytes.result.now ≡ c.args.line.now = c.as_bytes.ensures.value ∙ c.as_str.ensures in
    loses_out c.args.case.now c.args.low c.args.high c.args.line.now c.in-Some.at c.in-Some.floor c.in-Some.ensures.0 (sym is ∙ c.in-Some.ensures.2) (iff_false c.is_from.ensures c.if-is_from.false)
