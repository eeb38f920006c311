use Rattle.std.proofs.Common.{◌≡◌, take}
use Rattle.obj_tree.specs.Words.{fields_of}
use Rattle.obj_tree.proofs.column.fields_of.Given as goal

-- the words of the rows so far
abbrev pub invariant-loop-shown : goal.invariant-loop-shown
invariant-loop-shown l = l.words.items ≡ fields_of (take l.shown-index l.rows)
