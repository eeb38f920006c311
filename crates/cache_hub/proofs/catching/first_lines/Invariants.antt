use Rattle.cache_hub.specs.Catching.{AreInOrder}
use Rattle.cache_hub.proofs.CatchLemmas.{IsCatching}
use Rattle.cache_hub.proofs.catching.first_lines.Given as goal

abbrev pub invariant-loop-i : goal.invariant-loop-i
invariant-loop-i l = AreInOrder l.at l.all l.events → IsCatching l.many l.at l.selection l.events l.i l.caught
