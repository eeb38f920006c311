use Rattle.std.proofs.Common.{ap, sym, ◌∙◌}
use Rattle.list_rules.specs.Pages.{remaining_of}
use Rattle.cached_client.proofs.WalkLemmas.{left_counted}
use Rattle.cached_client.proofs.walks.left.Goals as goal

pub returns-then-is_unrestricted-clause-none : goal.returns-then-is_unrestricted-clause-none
returns-then-is_unrestricted-clause-none c =
    let same = left_counted c.args.selection.now c.args.rows c.len.result (sym c.is_unrestricted.ensures ∙ c.if-is_unrestricted.true) c.requires c.len.ensures in
    (λ none. sym same ∙ none, λ none. same ∙ none)

pub returns-then-is_unrestricted-clause-told : goal.returns-then-is_unrestricted-clause-told
returns-then-is_unrestricted-clause-told c =
    ap (remaining_of c.args.selection.now) (left_counted c.args.selection.now c.args.rows c.len.result (sym c.is_unrestricted.ensures ∙ c.if-is_unrestricted.true) c.requires c.len.ensures)
