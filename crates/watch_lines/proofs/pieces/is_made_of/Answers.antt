use Rattle.watch_lines.proofs.MadeLemmas.{made_step, made_all}
use Rattle.watch_lines.proofs.pieces.is_made_of.Goals as goal

pub loop-piece-preserved : goal.loop-piece-preserved
loop-piece-preserved c =
    made_step c.args.pieces.now c.loop-piece.piece-index _ c.args.text.now c.loop-piece.rest.now c.in-Some.more.now c.args.last.now c.loop-piece-test.true c.in-Some.ensures c.loop-piece.invariant

pub returns : goal.returns
returns c = made_all c.args.pieces.now c.loop-piece.piece-index c.args.text.now c.loop-piece.rest.now c.args.last.now c.eq.result c.loop-piece-test.false c.eq.ensures c.loop-piece.invariant
