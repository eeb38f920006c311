use Rattle.std.proofs.Common.{refl}
use Rattle.http_read.proofs.PlainLemmas.{plain-segment}
use Rattle.http_read.proofs.plain.segment_text.Goals as goal

pub returns-then-is_sure : goal.returns-then-is_sure
returns-then-is_sure c = rw (plain-segment c.args.raw.now (c.if-is_sure.ensures refl)) (rw c.ascii_str.ensures at c.new.ensures)
