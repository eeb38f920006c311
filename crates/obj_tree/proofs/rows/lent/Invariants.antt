use Rattle.std.proofs.Common.{◌≡◌, ◌≤◌, ◌++◌, length, drop}
use Rattle.obj_tree.specs.Pages.{values_of, joined, HoldEach}
use Rattle.obj_tree.specs.Marks.{AreMarks}
use Rattle.obj_tree.proofs.rows.lent.Given as goal

-- what is lent from the page on is what was to be lent
abbrev pub invariant-loop-page : goal.invariant-loop-page
invariant-loop-page l = record {
  some : HoldEach 1 (values_of l.pages);
  place : l.place ≤ length (joined (values_of l.pages));
  marks : AreMarks l.marks (values_of l.pages);
  rows : drop l.place (joined (values_of l.pages ++ values_of l.nodes)) ≡ drop l.fn.place (joined (values_of l.fn.pages ++ values_of l.nodes));
}

abbrev pub decreases-loop-page : goal.decreases-loop-page
decreases-loop-page l = length l.pages
