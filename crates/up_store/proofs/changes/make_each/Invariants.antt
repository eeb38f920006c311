use Rattle.std.proofs.Common.{take, fold}
use Rattle.rev_log.specs.States.{row_after}
use Rattle.up_store.specs.Kept.{AreStepped}
use Rattle.up_store.proofs.changes.make_each.Given as goal

-- the changes so far were made
abbrev pub invariant-loop-i : goal.invariant-loop-i
invariant-loop-i l = AreStepped l.fn.rows l.rows (λ key row. fold (row_after l.resource key l.rev) row (take l.i l.changes))
