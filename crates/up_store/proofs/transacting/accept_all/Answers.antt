-- What was prepared is committed.
use Rattle.std.proofs.Common.{refl}
use Rattle.std.proofs.lemmas.Result.{err_from_is_err_and}
use Rattle.rev_front.specs.Passes.{revision}
use Rattle.up_store.specs.Stores.{log_in}
use Rattle.up_store.proofs.WriteLemmas.{unpaid}
use Rattle.up_store.proofs.TransactLemmas.{tx-unprepared, tx-committed, tx-fits}
use Rattle.up_store.proofs.transacting.accept_all.Goals as goal

pub returns-in_err-answers-clause-answer : goal.returns-in_err-answers-clause-answer
returns-in_err-answers-clause-answer g c =
    let p = err_from_is_err_and c.from_residual.result c.from_residual.ensures.1 in
    rw (p.1, p.2) (tx-unprepared g.N.LogFacts.base c.args.mirror c.args.history c.revision-at.result c.args.asks.now c.args.pen.now c.args.kept.now
    c.in_err-answers.field-0.0
    c.if-mirror.false c.revision-at.ensures.answer c.requires.keeps c.in_err-answers.ensures.refused)

pub returns-in_err-answers-clause-keeps : goal.returns-in_err-answers-clause-keeps
returns-in_err-answers-clause-keeps g c = c.in_err-answers.ensures.keeps (log_in g.N.LogFacts.base c.args.pen.now) c.args.pen.now.floor c.requires.keeps

pub commit-requires-clause-fits : goal.commit-requires-clause-fits
commit-requires-clause-fits g c =
    let prepared =
    c.in_ok-answers.ensures.prepared (log_in g.N.LogFacts.base c.args.pen.now) c.args.pen.now.floor c.requires.keeps c.revision-at.ensures.answer in
    tx-fits (log_in g.N.LogFacts.base c.args.pen.now) (revision c.args.pen.now) c.args.asks.now c.in_ok-answers.revision prepared.revision_is refl

pub commit-requires-clause-keeps : goal.commit-requires-clause-keeps
commit-requires-clause-keeps g c = c.in_ok-answers.ensures.keeps (log_in g.N.LogFacts.base c.args.pen.now) c.args.pen.now.floor c.requires.keeps

pub returns-clause-answer : goal.returns-clause-answer
returns-clause-answer g c =
    tx-committed g.N.LogFacts.base c.args.mirror c.args.history c.revision-at.result c.args.asks.now c.args.pen.now c.commit.new.pen c.args.kept.now
    c.in_ok-answers.answers.items c.in_ok-answers.revision
    c.if-mirror.false c.commit.ensures.log c.revision-at.ensures.answer c.requires.keeps c.in_ok-answers.ensures.prepared

pub returns-in_err-answers-clause-author : goal.returns-in_err-answers-clause-author
returns-in_err-answers-clause-author g c = unpaid _ _ _ c.from_residual.ensures.1
