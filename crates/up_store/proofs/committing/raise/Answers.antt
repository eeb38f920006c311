use Rattle.up_store.proofs.StoreLemmas.{raised}
use Rattle.up_store.proofs.committing.raise.Goals as goal

pub returns-clause-keeps : goal.returns-clause-keeps
returns-clause-keeps g c =
    raised g.N.LogFacts.base c.args.pen.now c.lift.new.pen c.args.floor c.args.kept.now c.settle.new.self c.lift.ensures c.requires.above c.requires.reached
    c.settle.ensures.keeps c.requires.keeps
