use Rattle.std.proofs.Common.{◌≡◌, ◌++◌}
use Rattle.up_store.proofs.past.listed.Given as goal

-- what was shared, and then what is left, are the rows
abbrev pub invariant-loop-shown : goal.invariant-loop-shown
invariant-loop-shown l = record {
  can : (goal.iterator-loop-shown).can_next l.shown-iterator;
  finite : (goal.iterator-loop-shown).is_finite l.shown-iterator;
  rows : l.list.items ++ l.shown-iterator ≡ l.rows;
}
