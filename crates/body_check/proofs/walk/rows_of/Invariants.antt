use Rattle.std.proofs.Common.{take}
use Rattle.kube_meta.specs.Rows.{row_with}
use Rattle.rev_log.specs.Rows.{Holds}
use Rattle.body_check.proofs.walk.rows_of.Given as goal

-- the rows so far are there
abbrev pub invariant-loop-row : goal.invariant-loop-row
invariant-loop-row l = Holds l.table (row_with (take l.row-index l.rows))
