use Rattle.watch_lines.proofs.LawLemmas.{feedless-line}
use Rattle.watch_lines.proofs.laws.texts_have_no_line_feed.Goals as goal

pub returns : goal.returns
returns c = feedless-line
