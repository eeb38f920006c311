use Rattle.watch_record.proofs.LaterLemmas.{NoneLater}
use Rattle.watch_record.proofs.between_lists.place_in.Given as goal

abbrev pub invariant-loop-n : goal.invariant-loop-n
invariant-loop-n l = NoneLater l.later l.at l.n
