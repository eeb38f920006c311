use Rattle.laws.proofs.OneLemmas.{openings_are_one}
use Rattle.laws.proofs.mirrored.openings_are_one.Goals as goal

pub returns : goal.returns
returns c = openings_are_one c.lines_are_one.ensures c.readings_agree.ensures
