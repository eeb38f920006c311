use Rattle.watch_lines.proofs.ObjectLemmas.{one-object}
use Rattle.watch_lines.proofs.laws.shown_texts_tell_apart.Goals as goal

pub returns : goal.returns
returns c = one-object c.objects_read_back.ensures
