use Rattle.std.proofs.Common.{◌++◌}
use Rattle.json_obj.specs.Replies.{event_front, event_back}
use Rattle.watch_lines.proofs.EventLemmas.{no-front}
use Rattle.watch_lines.proofs.events.object_in.Goals as goal

pub returns-in_default : goal.returns-in_default
returns-in_default c = λ shown. no-front c.args.text.now c.front.result.now (event_front c.args.event) (shown ++ event_back) c.front.ensures c.in_default.ensures
