-- What the starts below a number come to.
use Rattle.std.specs.Prelude.{◌≡◌, ℕ, ◌<◌, ◌≤◌, ◌⊎◌, List, length, take}
use Rattle.body_check.specs.Findings.{Begins}

-- None of the allowed starts below `next` tells the texts; `best` is at least how many of them each begins, and that
-- many one of them does begin, or it is 0.
pub record AreTried (IsAllowed : ℕ → Type 0) (Tells : ℕ → List (List ℕ) → ℕ → Type 0) (texts : List (List ℕ)) (next best : ℕ) : Type 0 where
  pub none : (at p : ℕ) → IsAllowed at → at < next → Tells at texts p → ⊥
  pub within : best ≤ length texts
  pub begun : (best ≡ 0) ⊎ ((at : ℕ) × IsAllowed at × Begins (Tells at) (take best texts))
  pub greatest : (at m : ℕ) → IsAllowed at → at < next → m ≤ length texts → Begins (Tells at) (take m texts) → m ≤ best
