use Rattle.std.proofs.Common.{sym, ◌∙◌}
use Rattle.cached_client.proofs.AnswerLemmas.{all_listed}
use Rattle.cached_client.proofs.read_answers.is_of_all.Goals as goal

pub returns-in-None-None : goal.returns-in-None-None
returns-in-None-None c = λ free rows.
    all_listed c.args.ask.now rows c.in-None-None.is-0 c.in-None-None.is-1 (sym c.is_unrestricted.ensures ∙ free)
