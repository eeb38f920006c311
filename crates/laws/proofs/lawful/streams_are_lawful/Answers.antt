use Rattle.laws.proofs.StreamLemmas.{streams_lawful}
use Rattle.laws.proofs.lawful.streams_are_lawful.Goals as goal

pub returns : goal.returns
returns c = streams_lawful
