use Rattle.std.proofs.Common.{◌≡◌, ◌≤◌, ◌-◌, true, length, take, drop}
use Rattle.std.specs.List.{list_all}
use Rattle.obj_tree.specs.Edges.{edge_text, is_from}
use Rattle.obj_tree.specs.Maps.{is_below}
use Rattle.obj_tree.specs.Pages.{parts_of, joined}
use Rattle.obj_tree.proofs.edges.part_at.Given as goal

-- all but the last of the parts before the one place stand before the edge, and those from the other on don't
abbrev pub invariant-loop-low : goal.invariant-loop-low
invariant-loop-low g l = record {
  order : l.low ≤ l.high;
  inside : l.high ≤ length l.parts;
  before : list_all (is_below (edge_text l.edge)) (joined (take (l.low - 1) (parts_of g.P.Part.rows l.parts))) ≡ true;
  after : list_all (is_from (edge_text l.edge)) (joined (drop l.high (parts_of g.P.Part.rows l.parts))) ≡ true;
}

abbrev pub decreases-loop-low : goal.decreases-loop-low
decreases-loop-low g l = l.high - l.low
