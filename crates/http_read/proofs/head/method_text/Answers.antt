use Rattle.std.proofs.lemmas.Str.{utf8_lossy-IsUtf8}
use Rattle.http_read.proofs.head.method_text.Goals as goal

pub returns : goal.returns
returns c = rw (utf8_lossy-IsUtf8 c.args.method.now c.requires) at c.text.ensures
