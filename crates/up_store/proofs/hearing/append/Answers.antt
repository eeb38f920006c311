-- The revision is added as it is, behind a shared pointer.
use Rattle.std.proofs.Common.{◌+◌, sym, ap, ◌∙◌, subst}
use Rattle.rev_front.specs.Passes.{revision}
use Rattle.rev_log.specs.Changes.{RevisionData}
use Rattle.rev_log.specs.Logs.{Fits}
use Rattle.up_store.specs.Stores.{accepted}
use Rattle.up_store.proofs.hearing.append.Goals as goal

pub commit-requires-clause-fits : goal.commit-requires-clause-fits
commit-requires-clause-fits g c = subst (λ (r : RevisionData). Fits (revision c.args.pen.now + 1) r) (sym c.in_ok-entry.ensures) c.requires.fits

pub returns-clause-answer : goal.returns-clause-answer
returns-clause-answer g c = (ap (λ r. r.rev) c.revision.view_is, c.commit.ensures.log ∙ ap (accepted c.args.history c.args.pen.now) c.in_ok-entry.ensures)
