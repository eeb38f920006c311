use Rattle.std.proofs.Common.{◌==◌, length, ℕ, List, sym, ap, ◌∙◌}
use Rattle.route_req.proofs.DocumentPaths.{slash_gone, no_slash}
use Rattle.route_req.proofs.document_paths.before_slash.Goals as goal

pub returns-then-is_empty : goal.returns-then-is_empty
returns-then-is_empty c =
    slash_gone c.args.path.now c.in-Some.rest.now c.in-Some.last.now c.in-Some.ensures.cases.0
    (ap (λ (t : List ℕ). length t == 0) (sym c.as_str.ensures) ∙ sym c.is_empty.ensures ∙ c.if-is_empty.true)

pub returns-else-is_empty : goal.returns-else-is_empty
returns-else-is_empty c =
    no_slash c.args.path.now c.in-Some.rest.now c.in-Some.last.now c.in-Some.ensures.cases.0
    (ap (λ (t : List ℕ). length t == 0) (sym c.as_str.ensures) ∙ sym c.is_empty.ensures ∙ c.if-is_empty.false)
