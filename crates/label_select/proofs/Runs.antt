-- Longest runs of bytes at the front of a text.
use Rattle.std.proofs.Common.{◌≡◌, ℕ, zero, suc, ◌<◌, Bool, true, List, [], ◌∷◌, length, get_or, drop, refl, arith}
use Rattle.label_select.specs.Pieces.{begins}

-- each byte below n is such
abbrev pub EachBelow : (ℕ → Bool) → List ℕ → ℕ → Type 0
EachBelow is_such bytes n = (k : ℕ) → k < n → is_such (get_or bytes k 0) ≡ true

pub begins_dropped : (is_such : ℕ → Bool) (bytes : List ℕ) (n : ℕ) → n < length bytes → begins is_such (drop n bytes) ≡ is_such (get_or bytes n 0)
begins_dropped is_such [] n lt = absurd (omega arith)
begins_dropped is_such (b ∷ bytes) zero lt = refl
begins_dropped is_such (b ∷ bytes) (suc n) lt = begins_dropped is_such bytes n (omega arith)
