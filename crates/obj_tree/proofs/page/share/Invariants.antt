use Rattle.std.proofs.Common.{◌≡◌, ◌++◌, take}
use Rattle.obj_tree.specs.Pages.{values_of}
use Rattle.obj_tree.proofs.page.share.Given as goal

abbrev pub invariant-loop-shown : goal.invariant-loop-shown
invariant-loop-shown l = values_of l.rows.items ≡ values_of l.initial.rows.items ++ values_of (take l.shown-index l.more)
