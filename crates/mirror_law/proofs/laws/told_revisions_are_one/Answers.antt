use Rattle.mirror_law.proofs.ToldLemmas.{told_revisions_are_one}
use Rattle.mirror_law.proofs.laws.told_revisions_are_one.Goals as goal

pub returns : goal.returns
returns c = told_revisions_are_one
