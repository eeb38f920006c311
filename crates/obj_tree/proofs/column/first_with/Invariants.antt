use Rattle.std.proofs.Common.{◌≡◌, ℕ, ◌-◌, ◌<◌, ◌≤◌, false, length, get_or}
use Rattle.kube_meta.specs.Words.{has_bits}
use Rattle.obj_tree.proofs.column.first_with.Given as goal

-- no word so far has the mask's bits
abbrev pub invariant-loop-at : goal.invariant-loop-at
invariant-loop-at l = record {
  behind : l.from ≤ l.at;
  inside : l.at ≤ length l.words;
  lack : (k : ℕ) → l.from ≤ k → k < l.at → has_bits (get_or l.words k 0) l.mask ≡ false;
}

abbrev pub decreases-loop-at : goal.decreases-loop-at
decreases-loop-at l = length l.words - l.at
