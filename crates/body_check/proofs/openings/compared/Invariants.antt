use Rattle.std.proofs.Common.{◌≡◌, ◌≤◌, ◌++◌, take, length}
use Rattle.std.specs.BTreeMap.{values}
use Rattle.body_check.specs.Places.{texts_of_rows}
use Rattle.body_check.proofs.openings.compared.Given as goal

-- the lines so far are those of the rows that have gone by
abbrev pub invariant-loop-row : goal.invariant-loop-row
invariant-loop-row l = record {
  parted : texts_of_rows l.case (values l.rows) ≡ take l.n l.case.lines.items ++ texts_of_rows l.case l.row-iterator;
  within : l.n ≤ length l.case.lines.items;
}
