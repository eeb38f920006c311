use Rattle.std.proofs.Common.{◌≡◌, length, take}
use Rattle.std.specs.List.{flat_map}
use Rattle.sess_reply.proofs.body.length_in.Given as goal

-- the pieces before this one are counted
abbrev pub invariant-loop-piece : goal.invariant-loop-piece
invariant-loop-piece l = l.total ≡ length (flat_map (λ piece. piece.now) (take l.piece-index l.pieces))
