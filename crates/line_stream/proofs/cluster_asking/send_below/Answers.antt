use Rattle.std.proofs.Common.{subst, ◌∙◌}
use Rattle.edge_io.specs.Sent.{sent_through}
use Rattle.line_stream.specs.AskAnswers.{Asks}
use Rattle.line_stream.proofs.ClusterLemmas.{some-below, all-below}
use Rattle.line_stream.proofs.cluster_asking.send_below.Goals as goal

pub returns-in-Some : goal.returns-in-Some
returns-in-Some g c =
    let sent = sent_through g.K.Sink.written g.K.Sink.settled g.K.Sink.faults c.args.sink.now c.send_pieces.new.sink in
    rw c.in-Some.is
    (subst (λ t. Asks c.send_pieces.result t sent)
    (some-below c.args.base.now c.args.plural.now _ c.args.form.now _ _ _ _ c.as_bytes.ensures.value (c.as_bytes-in-Some.ensures.value ∙ c.as_str.ensures)
    c.as_bytes-in-Some-2.ensures.value c.as_bytes-in-Some-3.ensures.value)
    c.send_pieces.ensures)

pub returns-in-None : goal.returns-in-None
returns-in-None g c =
    let sent = sent_through g.K.Sink.written g.K.Sink.settled g.K.Sink.faults c.args.sink.now c.send_pieces-in-None.new.sink in
    rw c.in-None.is
    (subst (λ t. Asks c.send_pieces-in-None.result t sent)
    (all-below c.args.base.now c.args.plural.now c.args.form.now _ _ _ c.as_bytes-in-None.ensures.value c.as_bytes-in-None-2.ensures.value c.as_bytes-in-None-3.ensures.value)
    c.send_pieces-in-None.ensures)
