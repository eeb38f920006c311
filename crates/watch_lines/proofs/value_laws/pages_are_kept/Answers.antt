use Rattle.watch_lines.proofs.PageLemmas.{kept-page}
use Rattle.watch_lines.proofs.value_laws.pages_are_kept.Goals as goal

pub returns : goal.returns
returns c = kept-page c.values_are_orderly.ensures c.revisions_are_read_back.ensures
