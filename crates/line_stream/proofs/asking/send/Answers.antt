use Rattle.std.proofs.Common.{ℕ, ◌∙◌, subst}
use Rattle.line_stream.specs.Requests.{request_of}
use Rattle.edge_io.specs.Counts.{Rose}
use Rattle.edge_io.proofs.ToldLemmas.{AppendedSome-whole}
use Rattle.line_stream.proofs.asking.send.Goals as goal

pub returns-in-Err-flush : goal.returns-in-Err-flush
returns-in-Err-flush g c = (
  AppendedSome-whole (g.K.Sink.written c.args.sink.now) (g.K.Sink.written c.flush.new.self) (request_of c.args.ns.now c.args.form.now) (c.flush.ensures.kept ∙ c.in-Ok.ensures.0),
  subst (λ (n : ℕ). Rose n (g.K.Sink.faults c.flush.new.self)) c.in-Ok.ensures.1 c.in-Err-flush.ensures.counted,
)
