use Rattle.std.proofs.Common.{◌≡◌, ◌↔◌, ◌++◌, drop}
use Rattle.watch_lines.proofs.MadeLemmas.{made}
use Rattle.watch_lines.proofs.pieces.is_made_of.Given as goal

-- the text is as wanted exactly where its rest is the pieces that are left, and the last
abbrev pub invariant-loop-piece : goal.invariant-loop-piece
invariant-loop-piece l = (l.text ≡ made l.pieces ++ l.last) ↔ (l.rest ≡ made (drop l.piece-index l.pieces) ++ l.last)
