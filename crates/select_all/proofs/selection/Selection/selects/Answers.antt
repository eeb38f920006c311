use Rattle.std.proofs.Common.{◌≡◌, ◌∙◌, sym, rules}
use Rattle.select_all.specs.Selecting.{selects}
use Rattle.select_all.proofs.SelectionLaws.{selects_decides}
use Rattle.select_all.proofs.selection.Selection.selects.Goals as goal

-- what is computed decides it
pub returns-then-matches-clause-meaning : goal.returns-then-matches-clause-meaning
returns-then-matches-clause-meaning c =
    let computed : c.matches-then-matches.result ≡ selects c.args.self.now c.args.obj.now = search rules in
    let decides = selects_decides c.args.self.now c.args.obj.now in
    (λ is. decides.0 (sym computed ∙ is), λ chosen. computed ∙ decides.1 chosen)

pub returns-else-matches-clause-meaning : goal.returns-else-matches-clause-meaning
returns-else-matches-clause-meaning c =
    let computed : c.if-is_within.value ≡ selects c.args.self.now c.args.obj.now = search rules in
    let decides = selects_decides c.args.self.now c.args.obj.now in
    (λ is. decides.0 (sym computed ∙ is), λ chosen. computed ∙ decides.1 chosen)
