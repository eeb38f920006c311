use Rattle.std.proofs.Common.{◌≡◌, ◌≤◌, ◌-◌, true, length, take, drop}
use Rattle.std.specs.List.{list_all}
use Rattle.obj_tree.specs.Edges.{edge_text, is_from}
use Rattle.obj_tree.specs.Maps.{is_below}
use Rattle.obj_tree.specs.Pages.{values_of}
use Rattle.obj_tree.proofs.edges.row_at.Given as goal

-- the rows before the one place stand before the edge, and those from the other on don't
abbrev pub invariant-loop-low : goal.invariant-loop-low
invariant-loop-low l = record {
  order : l.low ≤ l.high;
  inside : l.high ≤ length l.rows;
  before : list_all (is_below (edge_text l.edge)) (take l.low (values_of l.rows)) ≡ true;
  after : list_all (is_from (edge_text l.edge)) (drop l.high (values_of l.rows)) ≡ true;
}

abbrev pub decreases-loop-low : goal.decreases-loop-low
decreases-loop-low l = l.high - l.low
