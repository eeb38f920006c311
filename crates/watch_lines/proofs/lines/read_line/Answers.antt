use Rattle.watch_lines.proofs.LineLemmas.{no-event}
use Rattle.watch_lines.proofs.lines.read_line.Goals as goal

pub returns-in_default : goal.returns-in_default
returns-in_default c = no-event c.args.resource c.args.text.now c.type_of_event-event.result c.type_of_event-event.ensures c.in_default.ensures
