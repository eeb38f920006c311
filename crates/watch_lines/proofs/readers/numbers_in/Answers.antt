use Rattle.watch_lines.proofs.TextLemmas.{first_none, second_none}
use Rattle.watch_lines.proofs.readers.numbers_in.Goals as goal

pub returns-in_default-revision_in : goal.returns-in_default-revision_in
returns-in_default-revision_in c = first_none c.args.text.now c.in-Some.at.now c.in-Some.floor.now c.in-Some.ensures.0 c.in-Some.ensures.1 c.in_default-revision_in.ensures

pub returns-in-None : goal.returns-in-None
returns-in-None c = second_none c.args.text.now c.in-Some.at.now c.in-Some.floor.now c.in-Some.ensures.0 c.in-Some.ensures.1 c.in-None.ensures
