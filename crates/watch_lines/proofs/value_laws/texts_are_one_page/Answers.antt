use Rattle.watch_lines.proofs.PageLemmas.{one-page}
use Rattle.watch_lines.proofs.value_laws.texts_are_one_page.Goals as goal

pub returns : goal.returns
returns c = one-page c.objects_are_one.ensures
