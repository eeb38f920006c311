use Rattle.std.proofs.Common.{◌≡◌, ◌-◌, ◌<◌, ◌≤◌, ◌++◌, ℕ, List, [], length}
use Rattle.edge_io.specs.Told.{prepended}
use Rattle.line_stream.proofs.bodies.read_counted.Given as goal

-- what was kept and taken is the data so far, and what is kept, which is nothing while data is missing
abbrev pub invariant-loop-kept : goal.invariant-loop-kept
invariant-loop-kept g l = record {
  taken : (taken : List ℕ) × (g.S.Source.left l.fn.source ≡ prepended taken (g.S.Source.left l.source)) × (l.fn.kept ++ taken ≡ l.content.items ++ l.kept);
  within : length l.content.items ≤ l.size;
  all : length l.content.items < l.size → l.kept ≡ [];
  quiet : g.S.Source.faults l.source ≡ g.S.Source.faults l.fn.source;
}

abbrev pub decreases-loop-kept : goal.decreases-loop-kept
decreases-loop-kept g l = l.size - length l.content.items
