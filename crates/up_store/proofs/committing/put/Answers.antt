-- The log and what is kept grow together.
use Rattle.std.proofs.Common.{◌+◌, ◌∷◌, [], ◌++◌, sym, ap, ◌∙◌, subst}
use Rattle.rev_front.specs.Passes.{revision}
use Rattle.rev_log.specs.Changes.{RevisionData}
use Rattle.rev_log.specs.Logs.{Fits}
use Rattle.up_store.proofs.StoreLemmas.{committed}
use Rattle.up_store.proofs.committing.put.Goals as goal

pub commit-end-requires-clause-fits : goal.commit-end-requires-clause-fits
commit-end-requires-clause-fits g c = subst (λ (r : RevisionData). Fits (revision c.args.pen.now + 1) r) (sym c.get.ensures) c.requires.fits

pub returns-clause-log : goal.returns-clause-log
returns-clause-log g c = c.commit-end.ensures.log ∙ ap (λ (r : RevisionData). record c.args.pen.now { log = c.args.pen.now.log ++ r ∷ [] }) c.get.ensures

pub returns-clause-keeps : goal.returns-clause-keeps
returns-clause-keeps g c =
    committed g.N.LogFacts.base c.args.pen.now c.commit-end.new.self c.args.revision c.args.kept.now c.push.new.self (returns-clause-log g c) c.requires.last
    c.requires.fits.0 c.push.ensures.same c.push.ensures.items c.push.ensures.bytes c.requires.keeps
