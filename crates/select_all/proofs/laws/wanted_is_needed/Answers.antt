use Rattle.select_all.proofs.SelectionLaws.{wanted_is_had}
use Rattle.select_all.proofs.laws.wanted_is_needed.Goals as goal

pub returns : goal.returns
returns c = wanted_is_had
