use Rattle.std.proofs.Common.{refl}
use Rattle.http_read.proofs.PlainLemmas.{plain-text}
use Rattle.http_read.proofs.plain.text.Goals as goal

pub returns-then-is_plain : goal.returns-then-is_plain
returns-then-is_plain c = rw (plain-text c.args.bytes.now (c.if-is_plain.ensures refl)) (rw c.ascii_str.ensures at c.new.ensures)
