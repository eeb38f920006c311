use Rattle.watch_lines.proofs.LawLemmas.{reads-back}
use Rattle.watch_lines.proofs.laws.lines_read_back.Goals as goal

pub returns : goal.returns
returns c = reads-back c.objects_read_back.ensures
