use Rattle.std.proofs.Common.{◌≡◌, ◌≤◌, ◌-◌, List, ℕ, ◌++◌, length, drop}
use Rattle.load_gen.specs.Replies.{AreReplies}
use Rattle.load_gen.proofs.replies.codes.Given as goal

-- of the codes those are found that stand before the rest
abbrev pub invariant-loop-at : goal.invariant-loop-at
invariant-loop-at l =
    (l.at ≤ length l.text)
    × ((codes : List ℕ) → AreReplies codes l.text → (rest : List ℕ) × AreReplies rest (drop l.at l.text) × (codes ≡ l.codes.items ++ rest))

abbrev pub decreases-loop-at : goal.decreases-loop-at
decreases-loop-at l = length l.text - l.at
