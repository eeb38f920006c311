-- What was heard stands, whichever answer is given again.
use Rattle.std.proofs.Common.{subst, sym}
use Rattle.cluster_link.specs.Mirroring.{ClusterData}
use Rattle.cluster_link.specs.Telling.{HearsCluster}
use Rattle.cluster_link.proofs.HearLemmas.{heard_again, view_of}
use Rattle.cluster_link.proofs.mirror.ClusterMirror.next.Goals as goal

pub returns-clause-hears : goal.returns-clause-hears
returns-clause-hears g c = λ none.
    let m = c.self-2.inside in
    let left = g.S.Source.left c.hear-heard.new.source in
    let heard = c.hear-heard.ensures.hears in (
      heard.0,
      heard.1,
      subst (λ (mirror : ClusterData). HearsCluster c.args.self.now heard.0 left c.hear-heard.result mirror) (sym c.note.ensures)
          (heard_again c.args.self.now (view_of m.log m.reader.at m.answer) heard.0 left c.standing_answer-self-inside.result c.hear-heard.result
          (subst (λ (mirror : ClusterData). HearsCluster c.args.self.now heard.0 left c.hear-heard.result mirror) (sym c.self-2.view_is) heard.2)),
    )
