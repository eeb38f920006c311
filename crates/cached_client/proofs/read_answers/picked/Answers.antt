use Rattle.std.proofs.Common.{ap, ◌∙◌}
use Rattle.std.proofs.lemmas.Result.{IfOk-weaker}
use Rattle.kube_meta.specs.Rows.{behind}
use Rattle.select_all.specs.Listings.{listing}
use Rattle.cached_client.proofs.AnswerLemmas.{cut_of_walk}
use Rattle.cached_client.proofs.read_answers.picked.Goals as goal

pub returns : goal.returns
returns c =
    let ask = c.args.ask.now in
    let state = c.args.state.now in
    let asked = c.in_question-rows.ensures.rows ∙ ap (λ after. listing ask.selection (behind after state)) c.as_ref.ensures.value in
    IfOk-weaker c.page_before.result _ _
    (λ listed made. made (behind ask.after (listing ask.selection state))
    (cut_of_walk ask state c.in_question-rows.result _ c.first.new.rows c.left-left.result asked c.in_ok-items.ensures.first c.in_ok-items.ensures.left c.left-left.ensures.none c.left-left.ensures.told))
    c.page_before.ensures
