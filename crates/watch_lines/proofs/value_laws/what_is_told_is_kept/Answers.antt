use Rattle.watch_lines.proofs.ValueLemmas.{kept-line}
use Rattle.watch_lines.proofs.value_laws.what_is_told_is_kept.Goals as goal

pub returns : goal.returns
returns c = kept-line c.values_are_orderly.ensures c.revisions_are_read_back.ensures
