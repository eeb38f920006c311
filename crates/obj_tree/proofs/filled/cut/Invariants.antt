use Rattle.std.proofs.Common.{◌≡◌, ◌≤◌, ◌++◌, length, map}
use Rattle.obj_tree.specs.Pages.{values_of, joined, AreFilled}
use Rattle.obj_tree.proofs.filled.cut.Given as goal

-- full parts, the last one, and what is left are all the rows
abbrev pub invariant-loop-shown : goal.invariant-loop-shown
invariant-loop-shown l = record {
  filled : AreFilled (map (λ part. values_of part.items) l.parts.items);
  few : length l.last.items ≤ 48;
  all : (joined (map (λ part. values_of part.items) l.parts.items) ++ values_of l.last.items) ++ values_of l.shown-iterator.rest.items ≡ joined (map (λ part. values_of part.items) l.initial.parts.items) ++ values_of l.fn.rows.items;
}
