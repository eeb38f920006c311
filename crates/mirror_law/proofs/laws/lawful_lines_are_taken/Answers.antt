use Rattle.mirror_law.proofs.TakenLemmas.{lawful_lines_are_taken}
use Rattle.mirror_law.proofs.laws.lawful_lines_are_taken.Goals as goal

pub returns : goal.returns
returns c = lawful_lines_are_taken
