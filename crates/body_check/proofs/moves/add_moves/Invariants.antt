use Rattle.std.proofs.Common.{◌≡◌, ◌++◌, take, filter_map}
use Rattle.std.specs.BTreeMap.{get}
use Rattle.std.specs.Cmp.Lexicographic.{slice_cmp}
use Rattle.std.specs.Ordering.{nat_cmp}
use Rattle.body_check.specs.Moves.{told_change}
use Rattle.body_check.proofs.moves.add_moves.Given as goal

-- the transitions of the changes so far, behind those that were there
abbrev pub invariant-loop-change : goal.invariant-loop-change
invariant-loop-change l = l.moves.items ≡ l.fn.moves.items ++ filter_map (told_change l.selection (get (slice_cmp nat_cmp) l.rows) l.rev) (take l.change-index l.changes)
