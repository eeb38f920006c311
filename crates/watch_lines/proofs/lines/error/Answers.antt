use Rattle.watch_lines.proofs.LineLemmas.{none-refused}
use Rattle.watch_lines.proofs.lines.error.Goals as goal

pub returns-in-None : goal.returns-in-None
returns-in-None c = none-refused c.args.resource c.args.text.now c.args.shown.now c.requires (rw c.in-None.is at c.in_ok-code.ensures)
