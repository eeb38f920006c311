use Rattle.watch_lines.proofs.KindLemmas.{one-without}
use Rattle.watch_lines.proofs.value_laws.items_show_the_same.Goals as goal

pub returns : goal.returns
returns c = one-without c.objects_are_one.ensures
