use Rattle.std.proofs.Common.{take, fold}
use Rattle.rev_log.specs.Rows.{Holds, row_next_upto}
use Rattle.rev_log.specs.States.{row_in_base}
use Rattle.rev_log.proofs.states.state.Given as goal

-- the map holds what the revisions so far leave, of those up to the number
abbrev pub invariant-loop-revision : goal.invariant-loop-revision
invariant-loop-revision l = Holds l.rows (λ key. fold (row_next_upto l.resource l.at key) (row_in_base l.base l.resource key) (take l.revision-index l.log))
