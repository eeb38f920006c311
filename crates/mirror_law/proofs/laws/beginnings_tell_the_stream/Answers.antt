use Rattle.mirror_law.proofs.ToldLemmas.{beginnings_tell_the_stream}
use Rattle.mirror_law.proofs.laws.beginnings_tell_the_stream.Goals as goal

pub returns : goal.returns
returns c = beginnings_tell_the_stream
