-- The request was sent on; where there is no opening, all stays but the answer.
use Rattle.std.proofs.Common.{inr}
use Rattle.edge_io.specs.Sent.{sent_through}
use Rattle.mirror_link.specs.Reopening.{opening_request}
use Rattle.mirror_link.proofs.ReopenLemmas.{asked_whole, none_anew}
use Rattle.mirror_link.proofs.mirror.Mirror.reopen.Goals as goal

pub returns-in-Ok-clause-asks : goal.returns-in-Ok-clause-asks
returns-in-Ok-clause-asks g c =
    asked_whole c.args.self.now c.in-Ok.opening c.take_opening.result c.take_opening.new.self (opening_request c.args.self.now)
    (sent_through g.K.Sink.written g.K.Sink.settled g.K.Sink.faults c.args.sink.now c.read_opening.new.sink) c.take_opening.ensures.takes c.in-Ok.ensures.asks

pub returns-in-Err-clause-reads : goal.returns-in-Err-clause-reads
returns-in-Err-clause-reads g c =
    let m = c.self.inside in
    let read = c.in-Err.ensures.reads in (
      read.0,
      read.1,
      inr (none_anew m.label m.field m.log m.reader.at m.answer c.args.self.now c.self.view_is read.0 (g.S.Source.left c.read_opening.new.source) c.in-Err.why read.2),
    )
