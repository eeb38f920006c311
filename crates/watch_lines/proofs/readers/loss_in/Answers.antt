use Rattle.watch_lines.proofs.TextLemmas.{loss_read, loss_none}
use Rattle.watch_lines.proofs.readers.loss_in.Goals as goal

pub returns-in-Some : goal.returns-in-Some
returns-in-Some c = loss_read c.numbers_in.result c.args.line.now c.in-Some.rest.now c.in-Some.ensures c.numbers_in.ensures

pub returns-in-None : goal.returns-in-None
returns-in-None c = loss_none c.args.line.now c.in-None.ensures
