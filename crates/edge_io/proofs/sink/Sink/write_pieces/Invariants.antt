use Rattle.std.proofs.Common.{◌≡◌, take}
use Rattle.std.specs.List.{flat_map}
use Rattle.edge_io.specs.Told.{appended}
use Rattle.edge_io.proofs.sink.Sink.write_pieces.Given as goal

-- the pieces before this one went out
abbrev pub invariant-loop-piece : goal.invariant-loop-piece
invariant-loop-piece g l = record {
  sent : g.Self.Sink.written l.self
      ≡ appended (g.Self.Sink.written l.initial.self) (flat_map (λ piece. piece.now) (take l.piece-index l.pieces));
  quiet : g.Self.Sink.faults l.self ≡ g.Self.Sink.faults l.initial.self;
}
