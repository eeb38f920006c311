use Rattle.watch_lines.proofs.TextLemmas.{within_both, within_none}
use Rattle.watch_lines.proofs.pieces.digits_within.Goals as goal

pub returns-in-Some-before : goal.returns-in-Some-before
returns-in-Some-before c = within_both c.revision_in.result c.args.text.now c.args.opens.now c.in-Some.rest.now c.in-Some-before.digits.now c.args.closes.now c.in-Some.ensures c.in-Some-before.ensures c.revision_in.ensures

pub returns-in-None : goal.returns-in-None
returns-in-None c = within_none c.args.text.now c.args.opens.now c.in-Some.rest.now c.args.closes.now c.in-Some.ensures c.in-None.ensures
