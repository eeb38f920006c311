use Rattle.std.proofs.Common.{◌≡◌, ◌++◌}
use Rattle.std.specs.BTreeMap.{values}
use Rattle.rev_log.proofs.rows.rows_in_order.Given as goal

-- what was moved, and then what is left, are the map's values
abbrev pub invariant-loop-row : goal.invariant-loop-row
invariant-loop-row l = l.list.items ++ l.row-iterator ≡ values l.fn.rows
