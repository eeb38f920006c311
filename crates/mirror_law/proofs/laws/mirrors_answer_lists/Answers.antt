use Rattle.mirror_law.proofs.AnswerLemmas.{mirrors_answer_lists}
use Rattle.mirror_law.proofs.laws.mirrors_answer_lists.Goals as goal

pub returns : goal.returns
returns c = mirrors_answer_lists
