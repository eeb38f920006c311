use Rattle.field_select.proofs.Laws.{is_found, is_only}
use Rattle.field_select.proofs.selector.FieldSel.read.Goals as goal

pub returns-clause-found : goal.returns-clause-found
returns-clause-found c = is_found c.args.resource c.args.text.now c.of.result c.of.ensures

pub returns-clause-only : goal.returns-clause-only
returns-clause-only c = is_only c.args.resource c.args.text.now c.of.result c.of.ensures
