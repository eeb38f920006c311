use Rattle.watch_rules.proofs.BookmarkLemmas.{closings_tell_the_start}
use Rattle.watch_rules.proofs.laws.closings_tell_the_start.Goals as goal

pub returns : goal.returns
returns c = closings_tell_the_start
