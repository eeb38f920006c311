use Rattle.http_read.proofs.WindowLemmas.{take-min}
use Rattle.http_read.proofs.head.front_of.Goals as goal

pub returns : goal.returns
returns c = take-min c.args.bytes.now _ _ c.min.ensures
