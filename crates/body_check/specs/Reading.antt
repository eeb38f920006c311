-- How lines are read that stand behind an opening: each tells the next transition, or is a bookmark, or is the loss
-- that ends a body.
use Rattle.std.specs.Prelude.{◌≡◌, ℕ, ◌-◌, ◌≤◌, Bool, IsTrue, List, [], ◌∷◌, ◌⊎◌, All}
use Rattle.select_all.specs.Streams.{TransitionData}

-- the texts of lines; whether bookmarks may come; the log's last revision; the last position that a start comes to; and
-- which losses the log bears out
pub record Course : Type 0 where
  pub told : TransitionData → List ℕ
  pub mark : ℕ → List ℕ
  pub lost : ℕ → ℕ → List ℕ
  pub marks : Bool
  pub end : ℕ
  pub stop : ℕ
  pub is_lost : ℕ → ℕ → Bool

-- the greatest position at which these transitions are still untold
abbrev pub highest : Course → List TransitionData → ℕ
highest c [] = c.stop
highest c (t ∷ more) = t.rev - 1

-- The text is a bookmark, which may stand from `low` on, before the untold transitions.
pub record IsMark (c : Course) (rest : List TransitionData) (low : ℕ) (text : List ℕ) (at : ℕ) : Type 0 where
  pub text_is : text ≡ c.mark at
  pub wanted : IsTrue c.marks
  pub onward : low ≤ at
  pub within : at ≤ highest c rest
  pub reached : at ≤ c.end

-- It is a loss, which may stand there too.
pub record IsLoss (c : Course) (rest : List TransitionData) (low : ℕ) (text : List ℕ) (at : ℕ) : Type 0 where
  pub floor : ℕ
  pub text_is : text ≡ c.lost at floor
  pub onward : low ≤ at
  pub within : at ≤ highest c rest
  pub borne : IsTrue (c.is_lost at floor)

-- Where the transitions `rest` are still untold and the position is at least `low`: the texts of what may follow, and
-- the position that they reach.
abbrev pub Reads : Course → List TransitionData → ℕ → List (List ℕ) → ℕ → Type 0
Reads c rest low [] p = (low ≤ p) × (p ≤ highest c rest)
Reads c [] low (x ∷ xs) p =
    ((at : ℕ) × IsMark c [] low x at × Reads c [] at xs p) ⊎ (IsLoss c [] low x p × (xs ≡ []))
Reads c (t ∷ more) low (x ∷ xs) p =
    ((x ≡ c.told t) × Reads c more t.rev xs p)
    ⊎ (((at : ℕ) × IsMark c (t ∷ more) low x at × Reads c (t ∷ more) at xs p) ⊎ (IsLoss c (t ∷ more) low x p × (xs ≡ [])))

-- ---- one line

-- the text tells the first of the transitions
abbrev pub IsNext : Course → List TransitionData → List ℕ → Type 0
IsNext c [] text = ⊥
IsNext c (t ∷ more) text = text ≡ c.told t

-- the position comes up to the last one, and so do the transitions
pub record IsUnderWay (c : Course) (rest : List TransitionData) (low : ℕ) : Type 0 where
  pub position : low ≤ c.stop
  pub untold : All (λ t. t.rev ≤ c.stop) rest

-- the texts of lines are told apart, and so are the numbers in bookmarks and losses that may stand
pub record AreToldApart (c : Course) : Type 0 where
  pub told_mark : (t : TransitionData) (at : ℕ) → c.told t ≡ c.mark at → ⊥
  pub told_lost : (t : TransitionData) (at floor : ℕ) → c.told t ≡ c.lost at floor → ⊥
  pub mark_lost : (at other floor : ℕ) → c.mark at ≡ c.lost other floor → ⊥
  pub marks : (at other : ℕ) → at ≤ c.end → other ≤ c.end → c.mark at ≡ c.mark other → at ≡ other
  pub losses : (at floor other other_floor : ℕ) → IsTrue (c.is_lost at floor) → IsTrue (c.is_lost other other_floor) →
      c.lost at floor ≡ c.lost other other_floor → at ≡ other
