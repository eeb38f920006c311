use Rattle.std.proofs.Common.{◌≡◌, ◌++◌}
use Rattle.obj_tree.specs.Pages.{values_of}
use Rattle.cache_core.proofs.replay.all_shown.Given as goal

abbrev pub invariant-loop-row : goal.invariant-loop-row
invariant-loop-row l = values_of l.shown.items ++ l.row-iterator.rest.items ≡ l.fn.rows.items
