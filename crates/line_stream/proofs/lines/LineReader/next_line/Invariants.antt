use Rattle.std.proofs.Common.{◌≡◌, ◌++◌, List, ℕ}
use Rattle.edge_io.specs.Told.{prepended}
use Rattle.line_stream.specs.Readers.{GoesOn, HoldsLine}
use Rattle.line_stream.specs.Moves.{steps_left}
use Rattle.line_stream.proofs.lines.LineReader.next_line.Given as goal

-- within the line the reader went on over what it kept and some bytes that were taken; over none where a line stands
abbrev pub invariant-loop-self : goal.invariant-loop-self
invariant-loop-self g l = record {
  taken : (taken : List ℕ) × (g.S.Source.left l.initial.source ≡ prepended taken (g.S.Source.left l.source)) × GoesOn l.initial.self.at (l.initial.self.at.kept ++ taken) l.self.at;
  idle : HoldsLine l.initial.self.at → (l.source ≡ l.initial.source) × GoesOn l.initial.self.at l.initial.self.at.kept l.self.at;
  line : l.self.line ≡ l.initial.self.line;
  quiet : g.S.Source.faults l.source ≡ g.S.Source.faults l.initial.source;
}

abbrev pub decreases-loop-self : goal.decreases-loop-self
decreases-loop-self g l = steps_left l.self.at
