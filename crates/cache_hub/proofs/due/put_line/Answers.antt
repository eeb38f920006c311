use Rattle.cache_hub.proofs.WaitingLemmas.{put_again}
use Rattle.cache_hub.proofs.due.put_line.Goals as goal

pub returns : goal.returns
returns c = put_again c.args.waiting.now.entries c.taken-lines.new.waiting.entries c.insert.new.self.entries c.args.id c.args.line c.taken-lines.result _ c.taken-lines.ensures.lines c.in_ok-push.ensures c.taken-lines.ensures.taken c.in_ok-insert.ensures.updates.0
