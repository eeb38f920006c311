use Rattle.std.proofs.Common.{◌≡◌, ◌≤◌, ◌-◌, ◌++◌, ℕ, List, length, vec_capacity}
use Rattle.edge_io.specs.Told.{prepended}
use Rattle.http_read.proofs.reader.read_rest.Given as goal

-- some bytes were taken, and stand behind the front
abbrev pub invariant-loop-source : goal.invariant-loop-source
invariant-loop-source g l = record {
  within : length l.body.items ≤ l.whole;
  reserved : l.whole ≤ vec_capacity l.body;
  taken : (taken : List ℕ) × (l.body.items ≡ l.initial.body.items ++ taken) × (g.S.Source.left l.initial.source ≡ prepended taken (g.S.Source.left l.source));
  idle : length l.initial.body.items ≡ l.whole → l.source ≡ l.initial.source;
  quiet : g.S.Source.faults l.source ≡ g.S.Source.faults l.initial.source;
}

abbrev pub decreases-loop-source : goal.decreases-loop-source
decreases-loop-source g l = l.whole - length l.body.items
