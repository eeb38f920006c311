use Rattle.laws.proofs.BadLineLemmas as lemmas
use Rattle.laws.proofs.mirrored.bad_lines_agree.Goals as goal

pub returns : goal.returns
returns c = lemmas.bad_lines_agree c.lines_are_one.ensures c.readings_agree.ensures
