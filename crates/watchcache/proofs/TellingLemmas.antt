-- What is told is a text, however it was put together.
use Rattle.std.proofs.Common.{◌≡◌, ◌∙◌, subst, ap, ℕ, List, ◌++◌, Ok}
use Rattle.std.specs.Prelude.{codes, decimal}
use Rattle.body_check.specs.declared.judging.Checked.TheVariants.{Lawful}
use Rattle.edge_io.specs.Sent.{Sent}
use Rattle.watchcache.specs.Texts.{verdict}
use Rattle.watchcache.specs.Run.{IsTold}

pub told_as : (text other : List ℕ) (done : ℕ) (sent : Sent) (status : ℕ) → text ≡ other → IsTold text done sent status → IsTold other done sent status
told_as text other done sent status same told = subst (λ t. IsTold t done sent status) same told

pub lawful_text : (from upto : List ℕ) (at to : ℕ) → from ≡ decimal at → upto ≡ decimal to →
    codes "lawful from " ++ (from ++ (codes " to " ++ (upto ++ codes "\n"))) ≡ verdict (Ok (Lawful at to))
lawful_text from upto at to from-is upto-is =
    ap (λ (xs : List ℕ). codes "lawful from " ++ (xs ++ (codes " to " ++ (upto ++ codes "\n")))) from-is
    ∙ ap (λ (ys : List ℕ). codes "lawful from " ++ (decimal at ++ (codes " to " ++ (ys ++ codes "\n")))) upto-is
