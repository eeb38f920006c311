use Rattle.mirror_law.proofs.MirrorLemmas.{mirrors_begin}
use Rattle.mirror_law.proofs.laws.mirrors_begin.Goals as goal

pub returns : goal.returns
returns c = mirrors_begin
