-- The first bytes of texts.
use Rattle.std.specs.Prelude.{◌≡◌, ℕ, zero, suc, List, [], ◌∷◌}
use Rattle.std.specs.Cmp.Lexicographic.{slice_cmp}
use Rattle.std.specs.declared.cmp.Ordering.{Ordering}
use Rattle.std.specs.declared.cmp.Ordering.TheVariants.{Equal}
use Rattle.std.specs.Ordering.{nat_cmp}

-- the first so many bytes of a text, and zeros behind a shorter one
abbrev pub first_bytes : ℕ → List ℕ → List ℕ
first_bytes zero text = []
first_bytes (suc n) [] = 0 ∷ first_bytes n []
first_bytes (suc n) (byte ∷ text) = byte ∷ first_bytes n text

-- texts with prefixes that differ stand in the order of these
abbrev pub PrefixesAreInOrder : Type 0
PrefixesAreInOrder =
    (n : ℕ) (a b : List ℕ) (order : Ordering) →
    slice_cmp nat_cmp (first_bytes n a) (first_bytes n b) ≡ order →
    (order ≡ Equal → ⊥) →
    slice_cmp nat_cmp a b ≡ order
