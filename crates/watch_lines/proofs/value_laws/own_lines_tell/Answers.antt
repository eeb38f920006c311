use Rattle.watch_lines.proofs.OwnLemmas.{own-line}
use Rattle.watch_lines.proofs.value_laws.own_lines_tell.Goals as goal

pub returns : goal.returns
returns c = own-line (record { objects = c.objects_read_back.ensures; orderly = c.values_are_orderly.ensures; revisions = c.revisions_are_read_back.ensures })
