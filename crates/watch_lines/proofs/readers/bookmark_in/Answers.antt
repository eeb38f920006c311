use Rattle.std.proofs.Common.{refl}
use Rattle.watch_lines.proofs.TextLemmas.{bookmark_read}
use Rattle.watch_lines.proofs.readers.bookmark_in.Goals as goal

pub returns : goal.returns
returns c = bookmark_read c.digits_within.result c.args.line.now c.args.resource c.args.closing c.front_of.result.now _ c.front_of.ensures refl c.digits_within.ensures
