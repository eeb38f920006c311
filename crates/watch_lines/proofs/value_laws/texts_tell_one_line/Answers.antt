use Rattle.watch_lines.proofs.ValueLemmas.{one-line}
use Rattle.watch_lines.proofs.value_laws.texts_tell_one_line.Goals as goal

pub returns : goal.returns
returns c = one-line c.objects_are_one.ensures
