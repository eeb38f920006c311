use Rattle.std.proofs.Common.{◌≡◌, ◌-◌, ◌++◌, List, ℕ, length}
use Rattle.edge_io.specs.Told.{prepended}
use Rattle.http_read.specs.Heads.{most_head}
use Rattle.line_stream.proofs.head.find_head.Given as goal

-- some bytes were taken, and stand behind those that were kept
abbrev pub invariant-loop-found : goal.invariant-loop-found
invariant-loop-found g l = record {
  spans : length l.spans ≡ 64;
  taken : (taken : List ℕ) × (g.S.Source.left l.initial.source ≡ prepended taken (g.S.Source.left l.source)) × (l.kept ≡ l.initial.kept ++ taken);
  quiet : g.S.Source.faults l.source ≡ g.S.Source.faults l.initial.source;
}

abbrev pub decreases-loop-found : goal.decreases-loop-found
decreases-loop-found g l = most_head - length l.kept
