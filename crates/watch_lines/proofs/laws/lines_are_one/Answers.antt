use Rattle.watch_lines.proofs.LineLemmas.{one-line}
use Rattle.watch_lines.proofs.laws.lines_are_one.Goals as goal

pub returns : goal.returns
returns c = one-line c.objects_read_back.ensures
