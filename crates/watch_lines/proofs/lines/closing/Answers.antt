use Rattle.watch_lines.proofs.LineLemmas.{none-marked}
use Rattle.watch_lines.proofs.lines.closing.Goals as goal

pub returns-in-None : goal.returns-in-None
returns-in-None c = none-marked c.args.resource c.args.text.now c.args.shown.now c.requires.event c.requires.other c.in-None.ensures
