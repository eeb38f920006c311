use Rattle.laws.proofs.OpenedLemmas.{openings_are_not_refused}
use Rattle.laws.proofs.mirrored.openings_are_not_refused.Goals as goal

pub returns : goal.returns
returns c = openings_are_not_refused c.lines_are_one.ensures c.readings_agree.ensures c.outcomes_agree.ensures
