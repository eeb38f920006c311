-- What a load comes to is determined by its draws.
use Rattle.std.specs.Prelude.{◌≡◌, ℕ}
use Rattle.load_gen.specs.Loads.{IsLoad}
use Rattle.load_gen.specs.declared.figures.Figures.{Figures}

-- Two loads of as many requests that begin with the same draw have the same figures.
abbrev pub FiguresAreDetermined : Type 0
FiguresAreDetermined = (from requests : ℕ) (a b : Figures) → IsLoad from requests a → IsLoad from requests b → b ≡ a
