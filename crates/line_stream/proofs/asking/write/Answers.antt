use Rattle.std.proofs.Common.{◌∙◌}
use Rattle.edge_io.specs.Sent.{sent_through}
use Rattle.line_stream.proofs.FormLemmas.{all_pieces, some_pieces, pieces_written}
use Rattle.line_stream.proofs.asking.write.Goals as goal

pub returns-in-Some : goal.returns-in-Some
returns-in-Some g c =
    let told = c.write_pieces.ensures in
    rw c.in-Some.is
    (pieces_written c.write_pieces.result _ _ (sent_through g.K.Sink.written g.K.Sink.settled g.K.Sink.faults c.args.sink.now c.write_pieces.new.self)
    (some_pieces c.as_bytes.result.now _ c.as_bytes-in-Some.result.now c.args.form.now (c.as_bytes.ensures.value ∙ c.as_str.ensures) c.as_bytes-in-Some.ensures.value)
    told.taken told.broken told.quiet told.counted)

pub returns-in-None : goal.returns-in-None
returns-in-None g c =
    let told = c.write_pieces-in-None.ensures in
    rw c.in-None.is
    (pieces_written c.write_pieces-in-None.result _ _ (sent_through g.K.Sink.written g.K.Sink.settled g.K.Sink.faults c.args.sink.now c.write_pieces-in-None.new.self)
    (all_pieces c.as_bytes-in-None.result.now c.args.form.now c.as_bytes-in-None.ensures.value)
    told.taken told.broken told.quiet told.counted)
