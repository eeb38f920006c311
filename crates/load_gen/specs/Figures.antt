-- The five lines of a load.
use Rattle.std.specs.Prelude.{ℕ, List, [], ◌∷◌, codes, decimal}
use Rattle.std.specs.List.{concat}
use Rattle.load_gen.specs.declared.figures.Figures.{Figures}

-- what is written of a load: each figure on a line of its own, behind its name
unfoldable pub figure_lines : Figures → List ℕ
figure_lines f =
    concat (codes "requests " ∷ decimal f.requests ∷ codes "\nok " ∷ decimal f.ok ∷ codes "\nrefused " ∷ decimal f.refused
    ∷ codes "\nrevision " ∷ decimal f.revision ∷ codes "\nitems " ∷ decimal f.items ∷ codes "\n" ∷ [])
