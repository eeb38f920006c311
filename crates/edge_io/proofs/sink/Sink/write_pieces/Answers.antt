use Rattle.edge_io.proofs.PieceLemmas.{AppendedSome-inside, flat_map-at}
use Rattle.edge_io.proofs.sink.Sink.write_pieces.Goals as goal

pub returns-in-Err-clause-broken : goal.returns-in-Err-clause-broken
returns-in-Err-clause-broken g c =
    AppendedSome-inside _ _ _ _ _ _ _ c.loop-piece.invariant.sent c.in-Err.ensures.broken
    (flat_map-at _ _ c.loop-piece.piece-index _ c.loop-piece-test.true)
