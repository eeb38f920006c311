use Rattle.mirror_law.proofs.ToldLemmas.{few_at_once}
use Rattle.mirror_law.proofs.laws.few_at_once.Goals as goal

pub returns : goal.returns
returns c = few_at_once
