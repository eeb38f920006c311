use Rattle.std.specs.Prelude.{◌≡◌, length}
use Rattle.up_api.specs.Sections.{log_of}
use Rattle.cache_hub.proofs.SendLemmas.{AreSending}
use Rattle.cache_hub.proofs.placed.send_all.Given as goal

abbrev pub invariant-loop-id : goal.invariant-loop-id
invariant-loop-id g l = (l.told ≡ l.fn.told) × AreSending (log_of g.N.LogFacts.base l.fn.told) l.end l.fn.lanes.entries l.lanes.entries l.waiting.entries

abbrev pub decreases-loop-id : goal.decreases-loop-id
decreases-loop-id g l = length l.waiting.entries
