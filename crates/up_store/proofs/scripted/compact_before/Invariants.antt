use Rattle.up_api.specs.Sections.{Learns, HasSeenAll}
use Rattle.up_store.proofs.scripted.compact_before.Given as goal

-- it learnt so far, and has seen all
abbrev pub invariant-loop-listed : goal.invariant-loop-listed
invariant-loop-listed g l = Learns l.fn.told l.told × HasSeenAll l.told
