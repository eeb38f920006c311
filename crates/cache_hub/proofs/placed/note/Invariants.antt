use Rattle.std.specs.Prelude.{drop}
use Rattle.cache_hub.proofs.WaitingLemmas.{IsNoting}
use Rattle.cache_hub.proofs.placed.note.Given as goal

abbrev pub invariant-loop-id : goal.invariant-loop-id
invariant-loop-id g l = IsNoting l.lanes.entries l.event l.fn.waiting.entries l.waiting.entries (drop l.id-index l.id-items)
