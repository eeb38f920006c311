-- What a sink holds back, as contracts see it.
use Rattle.std.specs.Prelude.{ℕ, List}

-- the bytes that are held back, and how many there may be
pub record HeldBytes : Type 0 where
  pub bytes : List ℕ
  pub room : ℕ
