use Rattle.std.proofs.Common.{◌≡◌, length}
use Rattle.obj_tree.specs.Marks.{AreMarks}
use Rattle.obj_tree.specs.Pages.{values_of}
use Rattle.obj_tree.proofs.mark.all_marks.Given as goal

-- a mark of each page so far
abbrev pub invariant-loop-page : goal.invariant-loop-page
invariant-loop-page l = record { are : AreMarks l.marks.items (values_of l.pages); many : length l.marks.items ≡ l.page-index }
