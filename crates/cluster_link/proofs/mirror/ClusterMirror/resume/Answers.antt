-- Nothing is kept, so the mirror follows from its own end.
use Rattle.std.proofs.Common.{ap, ◌∙◌}
use Rattle.mirror_log.specs.MirrorLogs.{MirrorLogData}
use Rattle.cluster_link.specs.Mirroring.{ClusterData}
use Rattle.cluster_link.proofs.HearLemmas.{view_of}
use Rattle.cluster_link.proofs.RelistLemmas.{resumed_follows}
use Rattle.cluster_link.proofs.mirror.ClusterMirror.resume.Goals as goal

pub returns-clause-follows : goal.returns-clause-follows
returns-clause-follows g c =
    let m = c.self-2.inside in
    let rests = c.self-2.view_is ∙ c.ask-asked.ensures.rest in
    resumed_follows (Unit {0}) c.ask-asked.result c.args.self.now (view_of m.log m.reader.at c.resumed_answer-self-inside.result)
    (ap (λ (it : ClusterData). it.selection) rests ∙ ap (λ (it : MirrorLogData). it.selection) c.forget.ensures ∙ ap (λ (it : ClusterData). it.selection) c.self.view_is)
    (ap (λ (it : ClusterData). it.log) rests ∙ ap (λ (it : MirrorLogData). it.log) c.forget.ensures ∙ ap (λ (it : ClusterData). it.log) c.self.view_is)
    (ap (λ (it : ClusterData). it.kept) rests ∙ ap (λ (it : MirrorLogData). it.kept) c.forget.ensures)
