use Rattle.std.proofs.Common.{◌≡◌, ◌≤◌, ◌<◌, ◌++◌, length}
use Rattle.obj_tree.specs.Pages.{values_of, joined, HoldEach, IsPaged}
use Rattle.obj_tree.proofs.filled.noded.Given as goal

-- the nodes so far are large, and the pages that are left are pages, 32 at least where there is a node
abbrev pub invariant-loop-rest : goal.invariant-loop-rest
invariant-loop-rest l = record {
  large : HoldEach 512 (values_of l.nodes.items);
  paged : IsPaged (values_of l.rest);
  many : 0 < length l.nodes.items → 32 ≤ length l.rest;
  rows : joined (values_of l.nodes.items) ++ joined (values_of l.rest) ≡ joined (values_of l.pages);
}

abbrev pub decreases-loop-rest : goal.decreases-loop-rest
decreases-loop-rest l = length l.rest
