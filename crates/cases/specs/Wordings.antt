-- Words that are put one behind the other.
use Rattle.std.specs.Prelude.{◌≡◌, ℕ, List, Option, Some, ◌++◌, IfSome}

-- words were put behind what was said before, where anything is said: nothing is once memory was lacking
abbrev pub Adds : Option (List ℕ) → Option (List ℕ) → List ℕ → Type 0
Adds old new words = IfSome new (λ said. (before : List ℕ) × (old ≡ Some before) × (said ≡ before ++ words))
