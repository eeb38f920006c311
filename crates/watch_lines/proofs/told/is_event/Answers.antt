use Rattle.std.proofs.Common.{◌++◌}
use Rattle.json_obj.specs.Replies.{event_front, event_back}
use Rattle.watch_lines.proofs.MadeLemmas.{made, front_none}
use Rattle.watch_lines.proofs.told.is_event.Goals as goal

pub returns-in-None : goal.returns-in-None
returns-in-None c = (
  λ e. absurd (cc),
  λ e. absurd (front_none c.args.line.now c.front.result.now (event_front c.args.event) (made c.args.object.now ++ event_back) c.front.ensures c.in-None.ensures e),
)
