use Rattle.mirror_law.proofs.MirrorLemmas.{mirrors_begin_anew}
use Rattle.mirror_law.proofs.laws.mirrors_begin_anew.Goals as goal

pub returns : goal.returns
returns c = mirrors_begin_anew
