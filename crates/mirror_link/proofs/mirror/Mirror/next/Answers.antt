-- What was heard stands, whichever answer is given again.
use Rattle.std.proofs.Common.{subst, sym}
use Rattle.mirror_link.specs.Hearing.{Hears}
use Rattle.mirror_link.specs.Views.{MirrorData}
use Rattle.mirror_link.proofs.CallLemmas.{heard_again, view}
use Rattle.mirror_link.proofs.mirror.Mirror.next.Goals as goal

pub returns-clause-hears : goal.returns-clause-hears
returns-clause-hears g c = λ none.
    let m = c.self-2.inside in
    let left = g.S.Source.left c.hear-heard.new.source in
    let heard = c.hear-heard.ensures.hears in (
      heard.0,
      heard.1,
      heard_again c.args.self.now (view m.label m.field m.log m.reader.at m.answer) heard.0 left c.kept_answer-self-inside.result c.hear-heard.result
          (subst (λ (mirror : MirrorData). Hears c.args.self.now heard.0 left c.hear-heard.result mirror) (sym c.self-2.view_is) heard.2),
    )
