use Rattle.label_select.proofs.RequirementLaws.{is_found, is_only}
use Rattle.label_select.proofs.selector.LabelSel.read.Goals as goal

pub returns-clause-found : goal.returns-clause-found
returns-clause-found c = is_found c.args.text.now c.of.result c.of.ensures

pub returns-clause-only : goal.returns-clause-only
returns-clause-only c = is_only c.args.text.now c.of.result c.of.ensures
