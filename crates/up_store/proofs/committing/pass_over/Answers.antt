-- The log and its end go on together.
use Rattle.std.proofs.Common.{refl}
use Rattle.up_store.proofs.ChangedLemmas.{quiet-fits}
use Rattle.up_store.proofs.StoreLemmas.{passed}
use Rattle.up_store.proofs.committing.pass_over.Goals as goal

pub pass_over-requires-clause-fits : goal.pass_over-requires-clause-fits
pass_over-requires-clause-fits g c = quiet-fits

pub returns-clause-keeps : goal.returns-clause-keeps
returns-clause-keeps g c =
    passed g.N.LogFacts.base c.args.pen.now c.pass_over.new.self c.args.upto c.args.kept.now _ c.pass_over.ensures.log c.requires.onward c.requires.last refl c.requires.keeps
