-- The tests that compute a selector's meaning decide it.
use Rattle.std.proofs.Common.{◌≡◌, ℕ, Bool, true, false, List, [], ◌∷◌, Decides, refl}
use Rattle.std.specs.Prelude.{◌&&◌, not, bytes_eq}
use Rattle.std.specs.List.{list_all, AllByRecursion}
use Rattle.std.proofs.lemmas.List.Elements.{All-from_recursion, recursion_from_All}
use Rattle.std.proofs.lemmas.Slice.Eq.{bytes_eq-Decides}
use Rattle.field_select.specs.Meaning.{Compares, Holds, Selects, compares, holds, selects, value_of}
use Rattle.field_select.specs.declared.terms.Term.{Term}

-- a test that fails decides what doesn't hold
pub not-Decides : {P : Type 0} (b : Bool) → Decides b P → Decides (not b) (¬ P)
not-Decides true d = (λ h. absurd (let wrong : false ≡ true = h in cc), λ n. absurd (n (d.0 refl)))
not-Decides false d = (λ h p. let wrong : false ≡ true = d.1 p in cc, λ n. refl)

and-Decides : {P Q : Type 0} (a b : Bool) → Decides a P → Decides b Q → Decides (a && b) (P × Q)
and-Decides true b d e = (λ h. (d.0 refl, e.0 h), λ w. e.1 w.1)
and-Decides false b d e = (λ h. absurd (let wrong : false ≡ true = h in cc), λ w. absurd (let wrong : false ≡ true = d.1 w.0 in cc))

all-Decides : {X : Type 0} (p : X → Bool) (P : X → Type 0) → ((x : X) → Decides (p x) (P x)) → (xs : List X) → Decides (list_all p xs) (AllByRecursion P xs)
all-Decides p P each [] = (λ _. tt, λ _. refl)
all-Decides p P each (x ∷ xs) = and-Decides (p x) (list_all p xs) (each x) (all-Decides p P each xs)

compares-Decides : (equal : Bool) (value given : List ℕ) → Decides (compares equal value given) (Compares equal value given)
compares-Decides true value given = bytes_eq-Decides value given
compares-Decides false value given = not-Decides (bytes_eq value given) (bytes_eq-Decides value given)

pub selects-Decides : (fields : List (List ℕ)) (key : List ℕ) (terms : List Term) → Decides (selects terms fields key) (Selects terms fields key)
selects-Decides fields key terms =
    let d = all-Decides (holds fields key) (Holds fields key) (λ t. compares-Decides t.equal (value_of fields key t.field) t.value) terms in
    (λ h. All-from_recursion (Holds fields key) terms (d.0 h), λ all. d.1 (recursion_from_All (Holds fields key) terms all))
