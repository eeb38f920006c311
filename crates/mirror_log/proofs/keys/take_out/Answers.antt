use Rattle.mirror_log.proofs.KeyLemmas.{line_removed}
use Rattle.mirror_log.proofs.keys.take_out.Goals as goal

pub loop-line-preserved : goal.loop-line-preserved
loop-line-preserved c =
    line_removed c.args.kind c.args.kept.now c.loop-line.line-index c.line-item.result c.args.keys.now c.loop-line.keys c.take_one.new.keys c.loop-line-test.true c.line-item.is c.loop-line.invariant c.take_one.ensures
