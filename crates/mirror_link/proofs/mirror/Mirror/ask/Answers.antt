-- Whatever the head says, the request was sent on.
use Rattle.std.proofs.Common.{Err, ap, sym, subst, ◌∙◌}
use Rattle.edge_io.specs.Sent.{sent_through}
use Rattle.mirror_link.specs.Beginning.{resume_request}
use Rattle.mirror_link.specs.Views.{MirrorData}
use Rattle.mirror_link.proofs.BeginLemmas.{begins, begins_none}
use Rattle.mirror_link.proofs.mirror.Mirror.ask.Goals as goal
use Rattle.mirror_link.specs.Asking.{IsAsked}
use Rattle.mirror_link.specs.declared.link_refusal.LinkNo.{LinkNo}
use Rattle.mirror_link.proofs.AnswerLemmas.{asked, not_asked, no_write}

pub returns-clause-reads : goal.returns-clause-reads
returns-clause-reads g c =
    let read = c.in-Ok-read_head.ensures.reads in (
      read.0,
      read.1,
      begins c.self.inside.reader c.read_head.new.self read.0 (g.S.Source.left c.read_head.new.source) (ap (λ (m : MirrorData). m.reading.kept) c.self.view_is ∙ c.requires.kept.0)
          (ap (λ (m : MirrorData). m.reading.room) c.self.view_is ∙ c.requires.kept.1) c.self.invariant.limit c.in-Ok-read_head.field-0 read.2,
    )

pub returns-in-Err-clause-asks : goal.returns-in-Err-clause-asks
returns-in-Err-clause-asks g c =
    let text = resume_request c.args.self.now in
    let sent = sent_through g.K.Sink.written g.K.Sink.settled g.K.Sink.faults c.args.sink.now c.send_request.new.sink in
    subst (λ (why : LinkNo). IsAsked {A = Unit {0}} (Err why) text sent) (sym c.from.ensures) (not_asked (Unit {0}) c.in-Err.fault text sent c.in-Err.ensures)

pub returns-in-Err-read_head-clause-asks : goal.returns-in-Err-read_head-clause-asks
returns-in-Err-read_head-clause-asks g c =
    asked (Unit {0}) c.from-in-Err-read_head.result (resume_request c.args.self.now)
    (sent_through g.K.Sink.written g.K.Sink.settled g.K.Sink.faults c.args.sink.now c.send_request.new.sink)
    (λ is. no_write c.in-Err-read_head.fault (sym c.from-in-Err-read_head.ensures ∙ is)) c.in-Ok.ensures

pub returns-in-Err-read_head-clause-reads : goal.returns-in-Err-read_head-clause-reads
returns-in-Err-read_head-clause-reads g c =
    let read = c.in-Err-read_head.ensures.reads in (
      read.0,
      read.1,
      begins_none c.self.inside.reader c.read_head.new.self read.0 (g.S.Source.left c.read_head.new.source) (ap (λ (m : MirrorData). m.reading.kept) c.self.view_is ∙ c.requires.kept.0)
          (ap (λ (m : MirrorData). m.reading.room) c.self.view_is ∙ c.requires.kept.1) c.self.invariant.limit c.in-Err-read_head.fault c.from-in-Err-read_head.result c.from-in-Err-read_head.ensures read.2,
    )
