-- The request is that of the mirror as contracts see it.
use Rattle.std.proofs.Common.{ℕ, List, ap, subst, ◌∙◌}
use Rattle.edge_io.specs.Sent.{sent_through}
use Rattle.line_stream.specs.AskAnswers.{Asks}
use Rattle.rev_log.specs.Logs.{end_of}
use Rattle.cluster_link.specs.Mirroring.{ClusterData}
use Rattle.cluster_link.proofs.AnswerLemmas.{stream_is}
use Rattle.cluster_link.proofs.mirror.ClusterMirror.send_request.Goals as goal

pub returns : goal.returns
returns g c =
    subst (λ (text : List ℕ). Asks c.ask_changes.result text (sent_through g.K.Sink.written g.K.Sink.settled g.K.Sink.faults c.args.sink.now c.ask_changes.new.sink))
    (stream_is c.args.self.now c.selection-selection.result.now c.to.result (c.selection-selection.ensures ∙ ap (λ (m : ClusterData). m.selection) c.self.view_is)
    (c.to.ensures.answer ∙ ap (λ (m : ClusterData). end_of m.log) c.self.view_is)) c.ask_changes.ensures
