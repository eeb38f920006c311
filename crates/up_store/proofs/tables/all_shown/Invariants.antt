use Rattle.std.proofs.Common.{◌≡◌, ◌++◌, map}
use Rattle.up_store.proofs.tables.all_shown.Given as goal

-- those that are shared, and then what is left, are the rows
abbrev pub invariant-loop-row : goal.invariant-loop-row
invariant-loop-row l = map (λ s. s.value) l.shown.items ++ l.row-iterator.rest.items ≡ l.fn.rows.items
