-- Whatever the head says, the request was sent on.
use Rattle.std.proofs.Common.{Err, ap, sym, subst, ◌∙◌}
use Rattle.edge_io.specs.Sent.{sent_through}
use Rattle.cluster_link.specs.Counting.{IsRequested}
use Rattle.cluster_link.specs.Mirroring.{ClusterData}
use Rattle.cluster_link.specs.Resuming.{BeginsStream, stream_request}
use Rattle.cluster_link.specs.declared.refusal.ClusterNo.{ClusterNo}
use Rattle.cluster_link.proofs.AnswerLemmas.{begins_no_stream, begins_stream, reply_written, requested, unrequested}
use Rattle.cluster_link.proofs.mirror.ClusterMirror.ask.Goals as goal

pub returns-clause-reads : goal.returns-clause-reads
returns-clause-reads g c =
    let read = c.in-Ok-read_head.ensures.reads in (
      read.0,
      read.1,
      begins_stream c.self.inside.reader c.read_head.new.self read.0 (g.S.Source.left c.read_head.new.source) (ap (λ (m : ClusterData). m.reading) c.self.view_is ∙ c.requires) c.in-Ok-read_head.field-0 read.2,
    )

pub returns-in-Err-clause-asks : goal.returns-in-Err-clause-asks
returns-in-Err-clause-asks g c =
    let text = stream_request c.args.self.now in
    let sent = sent_through g.K.Sink.written g.K.Sink.settled g.K.Sink.faults c.args.sink.now c.send_request.new.sink in
    subst (λ (why : ClusterNo). IsRequested {A = Unit {0}} (Err why) text sent) (sym c.request_refusal.ensures) (unrequested (Unit {0}) c.in-Err.fault text sent c.in-Err.ensures)

pub returns-in-Err-read_head-clause-asks : goal.returns-in-Err-read_head-clause-asks
returns-in-Err-read_head-clause-asks g c =
    requested (Unit {0}) c.reply_refusal.result (stream_request c.args.self.now)
    (sent_through g.K.Sink.written g.K.Sink.settled g.K.Sink.faults c.args.sink.now c.send_request.new.sink)
    (λ is. reply_written c.in-Err-read_head.fault (sym c.reply_refusal.ensures ∙ is)) c.in-Ok.ensures

pub returns-in-Err-read_head-clause-reads : goal.returns-in-Err-read_head-clause-reads
returns-in-Err-read_head-clause-reads g c =
    let read = c.in-Err-read_head.ensures.reads in (
      read.0,
      read.1,
      subst (λ (why : ClusterNo). BeginsStream read.0 (g.S.Source.left c.read_head.new.source) (Err why) c.read_head.new.self.at) (sym c.reply_refusal.ensures)
          (begins_no_stream c.self.inside.reader c.read_head.new.self read.0 (g.S.Source.left c.read_head.new.source) (ap (λ (m : ClusterData). m.reading) c.self.view_is ∙ c.requires)
          c.in-Err-read_head.fault read.2),
    )
