use Rattle.std.proofs.Common.{take, fold}
use Rattle.rev_log.specs.Rows.{Follows}
use Rattle.rev_log.specs.States.{row_after}
use Rattle.rev_log.proofs.rows.make_changes.Given as goal

-- the changes so far were made
abbrev pub invariant-loop-change : goal.invariant-loop-change
invariant-loop-change l = Follows l.fn.rows l.rows (λ key row. fold (row_after l.resource key l.revision.rev) row (take l.change-index l.revision.changes))
