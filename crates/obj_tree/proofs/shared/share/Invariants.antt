use Rattle.std.proofs.Common.{◌≡◌, ◌++◌, take}
use Rattle.obj_tree.specs.Pages.{values_of}
use Rattle.obj_tree.proofs.shared.share.Given as goal

abbrev pub invariant-loop-part : goal.invariant-loop-part
invariant-loop-part g l = values_of l.copies.items ≡ values_of l.initial.copies.items ++ values_of (take l.part-index l.parts)
