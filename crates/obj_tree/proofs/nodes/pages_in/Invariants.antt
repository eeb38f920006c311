use Rattle.std.proofs.Common.{◌+◌, ◌*◌, ◌≤◌, length, take}
use Rattle.obj_tree.specs.Pages.{values_of, joined}
use Rattle.obj_tree.proofs.nodes.pages_in.Given as goal

-- the pages of the nodes so far are few, and enough for their rows
abbrev pub invariant-loop-node : goal.invariant-loop-node
invariant-loop-node l = record {
  few : 33 * l.count ≤ 2 * length (joined (take l.node-index (values_of l.nodes))) + 31 * l.node-index;
  enough : length (joined (take l.node-index (values_of l.nodes))) ≤ 64 * l.count;
}
