use Rattle.body_check.proofs.OpeningLemmas.{closing_then, closing_else}
use Rattle.body_check.proofs.openings.after_rows.Goals as goal

pub returns-then-case : goal.returns-then-case
returns-then-case c = closing_then c.args.case.now c.args.at c.args.rest.now c.args.lines.now c.after_closing.result c.if-case.true c.after_closing.ensures

pub returns-else-case : goal.returns-else-case
returns-else-case c = closing_else c.args.case.now c.args.at c.args.rest.now c.args.lines.now c.follow.result c.if-case.false c.follow.ensures
