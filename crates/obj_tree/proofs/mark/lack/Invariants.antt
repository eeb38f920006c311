use Rattle.std.proofs.Common.{◌≡◌, ℕ, ◌<◌, false, get_or}
use Rattle.kube_meta.specs.Words.{has_bits}
use Rattle.obj_tree.proofs.mark.lack.Given as goal

-- the fours so far lack a bit
abbrev pub invariant-loop-word : goal.invariant-loop-word
invariant-loop-word l = (k : ℕ) → k < l.word-index → has_bits (get_or l.fours k 0) l.mask ≡ false
