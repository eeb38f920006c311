use Rattle.std.proofs.Common.{inr, subst}
use Rattle.httparse.specs.Grammar.{HasNoChunkLine}
use Rattle.line_stream.proofs.LookLemmas.{finds-size, opens-size}
use Rattle.line_stream.proofs.chunks.look_at_size.Goals as goal

pub returns-in-Ok-Complete : goal.returns-in-Ok-Complete
returns-in-Ok-Complete c =
    finds-size c.args.bytes.now _ _ _ _ c.size_front.ensures (rw c.in-Ok-Complete.field-0-is at c.in-Ok-Complete.ensures.complete) c.place_of.ensures

pub returns-in-Ok-Partial : goal.returns-in-Ok-Partial
returns-in-Ok-Partial c =
    opens-size _ _ c.size_front.ensures c.if-bytes-lt-MOST_SIZE.true
    (rw c.in-Ok-Partial.field-0-is at c.in-Ok-Partial.ensures.partial) (rw c.in-Ok-Partial.field-0-is at c.in-Ok-Partial.ensures.unfinished)

pub returns-in-Ok-Partial-2 : goal.returns-in-Ok-Partial-2
returns-in-Ok-Partial-2 c =
    inr (c.if-bytes-lt-MOST_SIZE.false, subst HasNoChunkLine c.size_front.ensures (rw c.in-Ok-Partial.field-0-is at c.in-Ok-Partial.ensures.partial))
