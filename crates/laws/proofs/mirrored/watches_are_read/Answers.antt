use Rattle.laws.proofs.ReadLemmas.{watches_are_read}
use Rattle.laws.proofs.mirrored.watches_are_read.Goals as goal

pub returns : goal.returns
returns c = watches_are_read c.lines_read_back.ensures c.texts_have_no_line_feed.ensures
