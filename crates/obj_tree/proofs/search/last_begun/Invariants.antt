use Rattle.std.proofs.Common.{◌≡◌, ◌<◌, ◌-◌, true, length, take}
use Rattle.std.specs.List.{list_all}
use Rattle.obj_tree.specs.Maps.{is_below}
use Rattle.obj_tree.specs.Pages.{parts_of, joined}
use Rattle.obj_tree.proofs.search.last_begun.Given as goal

-- what stands before the part is below the key
abbrev pub invariant-loop-at : goal.invariant-loop-at
invariant-loop-at g l = (l.at < length l.parts) × (list_all (is_below l.sought) (joined (take l.at (parts_of g.P.Part.rows l.parts))) ≡ true)

abbrev pub decreases-loop-at : goal.decreases-loop-at
decreases-loop-at g l = length l.parts - l.at
