-- What was prepared is committed.
use Rattle.std.proofs.Common.{refl}
use Rattle.std.proofs.lemmas.Result.{err_from_is_err_and}
use Rattle.rev_front.specs.Passes.{revision}
use Rattle.up_store.specs.Stores.{log_in}
use Rattle.up_store.proofs.WriteLemmas.{unpaid, unprepared, committed-answer, write-fits}
use Rattle.up_store.proofs.writing.accept.Goals as goal

pub returns-in_err-written-clause-answer : goal.returns-in_err-written-clause-answer
returns-in_err-written-clause-answer g c =
    let p = err_from_is_err_and c.from_residual.result c.from_residual.ensures.1 in
    rw (p.1, p.2) (unprepared g.N.LogFacts.base c.args.mirror c.args.history c.revision-at.result c.args.ask.now c.args.pen.now c.args.kept.now
    c.in_err-written.field-0.0
    c.if-mirror.false c.revision-at.ensures.answer c.requires.keeps c.in_err-written.ensures.refused)

pub returns-in_err-written-clause-keeps : goal.returns-in_err-written-clause-keeps
returns-in_err-written-clause-keeps g c = c.in_err-written.ensures.keeps (log_in g.N.LogFacts.base c.args.pen.now) c.args.pen.now.floor c.requires.keeps

pub commit-requires-clause-fits : goal.commit-requires-clause-fits
commit-requires-clause-fits g c =
    let prepared =
    c.in_ok-written.ensures.prepared (log_in g.N.LogFacts.base c.args.pen.now) c.args.pen.now.floor c.requires.keeps c.revision-at.ensures.answer in
    write-fits (log_in g.N.LogFacts.base c.args.pen.now) (revision c.args.pen.now) c.args.ask.now c.in_ok-written.revision prepared.revision_is refl

pub commit-requires-clause-keeps : goal.commit-requires-clause-keeps
commit-requires-clause-keeps g c = c.in_ok-written.ensures.keeps (log_in g.N.LogFacts.base c.args.pen.now) c.args.pen.now.floor c.requires.keeps

pub returns-clause-answer : goal.returns-clause-answer
returns-clause-answer g c =
    committed-answer g.N.LogFacts.base c.args.mirror c.args.history c.revision-at.result c.args.ask.now c.args.pen.now c.commit.new.pen c.args.kept.now
    c.in_ok-written.written c.in_ok-written.revision
    c.if-mirror.false c.commit.ensures.log c.revision-at.ensures.answer c.requires.keeps c.in_ok-written.ensures.prepared

pub returns-in_err-written-clause-author : goal.returns-in_err-written-clause-author
returns-in_err-written-clause-author g c = unpaid _ _ _ c.from_residual.ensures.1
