use Rattle.std.proofs.Common.{◌≡◌, ℕ, ◌<◌, true, get_or}
use Rattle.kube_meta.specs.Words.{has_bits}
use Rattle.obj_tree.specs.Words.{four_at}
use Rattle.obj_tree.proofs.column.fours_of.Given as goal

-- the fours have the bits of the words so far
abbrev pub invariant-loop-at : goal.invariant-loop-at
invariant-loop-at l = (k : ℕ) → k < l.at → has_bits (get_or l.fours (four_at k) 0) (get_or l.words k 0) ≡ true
