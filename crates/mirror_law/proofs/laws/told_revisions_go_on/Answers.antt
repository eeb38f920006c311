use Rattle.mirror_law.proofs.ToldLemmas.{told_revisions_go_on}
use Rattle.mirror_law.proofs.laws.told_revisions_go_on.Goals as goal

pub returns : goal.returns
returns c = told_revisions_go_on
