use Rattle.mirror_law.proofs.AnswerLemmas.{mirrors_compose}
use Rattle.mirror_law.proofs.laws.mirrors_compose.Goals as goal

pub returns : goal.returns
returns c = mirrors_compose
