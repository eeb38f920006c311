-- The request is that of the mirror as contracts see it.
use Rattle.std.proofs.Common.{ℕ, List, ap, subst, ◌∙◌}
use Rattle.line_stream.specs.AskAnswers.{Asks}
use Rattle.edge_io.specs.Sent.{sent_through}
use Rattle.mirror_link.specs.Views.{MirrorData}
use Rattle.mirror_link.proofs.BeginLemmas.{request_is}
use Rattle.mirror_link.proofs.mirror.Mirror.send_request.Goals as goal
use Rattle.rev_log.specs.Logs.{end_of}
use Rattle.select_all.specs.declared.selection.Selection.{Selection}

pub returns : goal.returns
returns g c =
    subst (λ (text : List ℕ). Asks c.ask_watch.result text (sent_through g.K.Sink.written g.K.Sink.settled g.K.Sink.faults c.args.sink.now c.ask_watch.new.sink))
    (request_is c.args.self.now c.selection.result.now.ns c.to.result c.as_str.result.now c.as_str-2.result.now
    (ap (λ (s : Selection). s.ns) c.selection.ensures ∙ ap (λ (m : MirrorData). m.selection.ns) c.self.view_is) (c.to.ensures.answer ∙ ap (λ (m : MirrorData). end_of m.log) c.self.view_is)
    (c.as_str.ensures ∙ ap (λ (m : MirrorData). m.label) c.self.view_is) (c.as_str-2.ensures ∙ ap (λ (m : MirrorData). m.field) c.self.view_is)) c.ask_watch.ensures
