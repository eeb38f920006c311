use Rattle.serde_json.specs.View.{view}
use Rattle.watch_lines.proofs.ValueLemmas.{unshown}
use Rattle.watch_lines.proofs.values.changed.Goals as goal

pub returns-in-None : goal.returns-in-None
returns-in-None c = unshown c.args.resource c.args.kind (view c.args.object.now) (rw c.in-None.is at c.in_ok-obj.ensures)
