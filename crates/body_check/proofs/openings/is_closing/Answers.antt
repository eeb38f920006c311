use Rattle.std.proofs.Common.{◌≡◌, ◌∙◌, sym}
use Rattle.body_check.proofs.OpeningLemmas.{closing_found, closing_missed}
use Rattle.body_check.proofs.openings.is_closing.Goals as goal

pub returns-in-Some : goal.returns-in-Some
returns-in-Some c =
    let is : c.as_bytes.result.now ≡ c.args.line.now = c.as_bytes.ensures.value ∙ c.as_str.ensures in
    closing_found c.args.case.now c.args.at c.args.line.now c.requires c.in-Some.found c.in-Some.ensures.0 (sym is ∙ c.in-Some.ensures.1)

pub returns-in-None : goal.returns-in-None
returns-in-None c =
    let is : c.as_bytes.result.now ≡ c.args.line.now = c.as_bytes.ensures.value ∙ c.as_str.ensures in
    closing_missed c.args.case.now c.args.at c.args.line.now c.requires (λ n le e. c.in-None.ensures n le (is ∙ e))
