use Rattle.line_stream.proofs.LookLemmas.{front-min}
use Rattle.line_stream.proofs.chunks.size_front.Goals as goal

pub returns : goal.returns
returns c = front-min c.args.bytes.now _ _ c.min.ensures
