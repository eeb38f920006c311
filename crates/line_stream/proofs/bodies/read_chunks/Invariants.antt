use Rattle.std.proofs.Common.{◌≡◌, ◌≤◌, ◌++◌, ℕ, List, length}
use Rattle.edge_io.specs.Told.{prepended}
use Rattle.line_stream.specs.BodySteps.{IsFront, reading_at}
use Rattle.line_stream.specs.Moves.{steps_left}
use Rattle.line_stream.proofs.bodies.read_chunks.Given as goal

-- what was kept and taken is the front of a body up to here, and what is kept
abbrev pub invariant-loop-place : goal.invariant-loop-place
invariant-loop-place g l = record {
  front : (taken : List ℕ) × (g.S.Source.left l.initial.source ≡ prepended taken (g.S.Source.left l.source)) × IsFront (l.initial.kept ++ taken) l.content.items l.kept l.place;
  short : length l.content.items ≤ l.limit;
  quiet : g.S.Source.faults l.source ≡ g.S.Source.faults l.initial.source;
}

abbrev pub decreases-loop-place : goal.decreases-loop-place
decreases-loop-place g l = steps_left (reading_at l.limit l.place l.kept l.content.items)
