use Rattle.std.proofs.Common.{◌≡◌, ◌≤◌, ◌-◌, true, length, take}
use Rattle.std.specs.List.{list_all}
use Rattle.obj_tree.specs.Maps.{is_below}
use Rattle.obj_tree.specs.Pages.{values_of}
use Rattle.obj_tree.proofs.search.passed.Given as goal

-- the rows that were passed are below the key
abbrev pub invariant-loop-at : goal.invariant-loop-at
invariant-loop-at l = (l.at ≤ length l.rows) × (list_all (is_below l.sought) (take l.at (values_of l.rows)) ≡ true)

abbrev pub decreases-loop-at : goal.decreases-loop-at
decreases-loop-at l = length l.rows - l.at
