use Rattle.std.specs.Vec.Iter.{into_iter_len}
use Rattle.bells.proofs.calls.Calls.ring_all.Given as goal

abbrev pub decreases-loop-call : goal.decreases-loop-call
decreases-loop-call l = into_iter_len l.owed
