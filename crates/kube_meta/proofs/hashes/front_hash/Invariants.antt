use Rattle.std.proofs.Common.{◌≡◌, take}
use Rattle.kube_meta.specs.Hashes.{stirred_by}
use Rattle.kube_meta.proofs.hashes.front_hash.Given as goal

-- the hash is that by the pieces so far
abbrev pub invariant-loop-piece : goal.invariant-loop-piece
invariant-loop-piece l = l.hash ≡ stirred_by l.fn.seed (take l.piece-index l.pieces)
