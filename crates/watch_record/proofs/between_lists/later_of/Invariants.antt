use Rattle.watch_record.proofs.LaterLemmas.{AreLaterSoFar}
use Rattle.watch_record.proofs.PartLemmas.{told}
use Rattle.watch_record.proofs.between_lists.later_of.Given as goal

abbrev pub invariant-loop-n : goal.invariant-loop-n
invariant-loop-n l = AreLaterSoFar l.resource l.from (told l.texts) l.n l.later.items
