use Rattle.std.proofs.Common.{◌≡◌, ◌<◌, ◌^◌, length, take}
use Rattle.std.specs.List.{flat_map}
use Rattle.sess_turns.proofs.frames.short_length.Given as goal

-- the pieces before this one are counted, where they are so few
abbrev pub invariant-loop-piece : goal.invariant-loop-piece
invariant-loop-piece l = l.total < 2 ^ 62 → l.total ≡ length (flat_map (λ piece. piece.now) (take l.piece-index l.pieces))
