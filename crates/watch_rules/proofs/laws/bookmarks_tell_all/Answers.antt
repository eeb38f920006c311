use Rattle.watch_rules.proofs.BookmarkLemmas.{bookmarks_tell_all}
use Rattle.watch_rules.proofs.laws.bookmarks_tell_all.Goals as goal

pub returns : goal.returns
returns c = bookmarks_tell_all
