use Rattle.std.proofs.Common.{take, fold}
use Rattle.rev_log.specs.States.{row_next}
use Rattle.up_store.specs.Kept.{AreStepped}
use Rattle.up_store.proofs.past.made_upon.Given as goal

-- the revisions so far were made
abbrev pub invariant-loop-revision : goal.invariant-loop-revision
invariant-loop-revision l = AreStepped l.fn.rows l.rows (λ key row. fold (row_next l.resource key) row (take l.revision-index l.revisions))
