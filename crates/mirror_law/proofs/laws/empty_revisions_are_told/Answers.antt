use Rattle.mirror_law.proofs.ToldLemmas.{empty_revisions_are_told}
use Rattle.mirror_law.proofs.laws.empty_revisions_are_told.Goals as goal

pub returns : goal.returns
returns c = empty_revisions_are_told
