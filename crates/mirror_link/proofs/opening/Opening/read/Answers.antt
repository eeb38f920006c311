-- Where the rows are refused, the request was sent on all the same.
use Rattle.std.proofs.Common.{[], Err, sym, subst, inr}
use Rattle.line_stream.specs.Requests.{request_text}
use Rattle.line_stream.specs.declared.start.Start.TheVariants.{State}
use Rattle.edge_io.proofs.ToldLemmas.{prepended-nil}
use Rattle.edge_io.specs.Sent.{sent_through}
use Rattle.mirror_link.specs.Asking.{IsAsked}
use Rattle.mirror_link.specs.Openings.{OpeningData}
use Rattle.mirror_link.specs.Reading.{HasNoOpening}
use Rattle.mirror_link.specs.declared.link_refusal.LinkNo.{LinkNo}
use Rattle.mirror_link.proofs.AnswerLemmas.{asked, not_asked, unasked, was_asked}
use Rattle.mirror_link.proofs.opening.Opening.read.Goals as goal

pub returns-in-Err-clause-asks : goal.returns-in-Err-clause-asks
returns-in-Err-clause-asks g c =
    let text = request_text c.args.selection.ns State c.args.label.now c.args.field.now in
    let sent = sent_through g.K.Sink.written g.K.Sink.settled g.K.Sink.faults c.args.sink.now c.ask_watch.new.sink in
    subst (λ (why : LinkNo). IsAsked {A = OpeningData} (Err why) text sent) (sym c.from.ensures) (not_asked OpeningData c.in-Err.fault text sent c.in-Err.ensures)

pub returns-in-Err-clause-reads : goal.returns-in-Err-clause-reads
returns-in-Err-clause-reads g c = (
  [],
  sym (prepended-nil (g.S.Source.left c.args.source.now)),
  subst (λ (why : LinkNo). HasNoOpening c.args.selection [] (g.S.Source.left c.args.source.now) why) (sym c.from.ensures) (unasked c.args.selection (g.S.Source.left c.args.source.now) c.in-Err.fault),
)

pub returns-in-Err-read_rows-clause-asks : goal.returns-in-Err-read_rows-clause-asks
returns-in-Err-read_rows-clause-asks g c =
    let read = c.in-Err-read_rows.ensures.reads in
    asked OpeningData c.in-Err-read_rows.why _ (sent_through g.K.Sink.written g.K.Sink.settled g.K.Sink.faults c.args.sink.now c.ask_watch.new.sink)
    (was_asked c.args.selection read.0 (g.S.Source.left c.read_rows.new.source) c.in-Err-read_rows.why read.2) c.in-Ok-ask_watch.ensures

pub returns-in-Err-read_rows-clause-reads : goal.returns-in-Err-read_rows-clause-reads
returns-in-Err-read_rows-clause-reads g c =
    let read = c.in-Err-read_rows.ensures.reads in
    (read.0, read.1, inr read.2)
