use Rattle.serde_json.specs.View.{view}
use Rattle.watch_lines.proofs.ValueLemmas.{untold, all-of-value}
use Rattle.watch_lines.proofs.values.tell_line.Goals as goal

pub returns-in-Some : goal.returns-in-Some
returns-in-Some c = all-of-value c.args.resource c.args.text.now (view c.in-Some.value) (rw c.in-Some.is at c.in_ok-value.ensures) c.line_of.result c.line_of.ensures

pub returns-in-None : goal.returns-in-None
returns-in-None c = untold c.args.resource c.args.text.now (rw c.in-None.is at c.in_ok-value.ensures)
