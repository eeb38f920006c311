use Rattle.mirror_law.proofs.MirrorLemmas.{mirrors_go_on}
use Rattle.mirror_law.proofs.laws.mirrors_go_on.Goals as goal

pub returns : goal.returns
returns c = mirrors_go_on
