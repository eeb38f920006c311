use Rattle.std.proofs.Common.{take, All}
use Rattle.rev_log.specs.Changes.{HasItsKey}
use Rattle.rev_log.proofs.changes.are_keyed.Given as goal

-- the changes so far have their objects' keys
abbrev pub invariant-loop-change : goal.invariant-loop-change
invariant-loop-change l = All HasItsKey (take l.change-index l.changes)
