use Rattle.http_read.proofs.PlainLemmas.{itself-more}
use Rattle.http_read.proofs.plain.is_plain.Goals as goal

pub loop-byte-preserved : goal.loop-byte-preserved
loop-byte-preserved c =
    itself-more c.args.raw.now c.loop-byte.byte-index _ c.loop-byte.plain c.is_plain_byte-plain.result c.loop-byte-test.true c.loop-byte.invariant c.is_plain_byte-plain.ensures
