use Rattle.std.proofs.Common.{◌≡◌, length, take}
use Rattle.obj_tree.specs.Pages.{parts_of, joined}
use Rattle.obj_tree.proofs.rows.rows_in.Given as goal

-- the rows of the parts so far
abbrev pub invariant-loop-part : goal.invariant-loop-part
invariant-loop-part g l = l.count ≡ length (joined (take l.part-index (parts_of g.P.Part.rows l.parts)))
