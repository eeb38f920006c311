use Rattle.watch_rules.proofs.BodyLemmas.{streams_are_told}
use Rattle.watch_rules.proofs.laws.bodies_tell_the_stream.Goals as goal

pub returns : goal.returns
returns c = streams_are_told
