use Rattle.std.proofs.Common.{sym, ◌∙◌}
use Rattle.line_stream.proofs.LookLemmas.{ends-nowhere, ends-half, length-none}
use Rattle.line_stream.proofs.chunks.look_at_end.Goals as goal

pub returns-then-is_empty : goal.returns-then-is_empty
returns-then-is_empty c =
    ends-nowhere c.args.bytes.now (length-none c.args.bytes.now (sym c.is_empty.ensures ∙ c.if-is_empty.true))

pub returns-then-bytes-eq1 : goal.returns-then-bytes-eq1
returns-then-bytes-eq1 c = ends-half c.args.bytes.now c.if-bytes-eq1.true c.if-bytes-ne13.false
