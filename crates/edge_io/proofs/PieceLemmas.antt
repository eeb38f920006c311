-- A text in pieces.
use Rattle.std.proofs.Common.{◌≡◌, ℕ, ◌<◌, List, ◌++◌, length, take, drop, get_or, suc, sym, ap, subst, ◌∙◌, take-append-drop, drop-cons}
use Rattle.std.proofs.lemmas.Grind.{flat_map-append}
use Rattle.std.specs.List.{flat_map}
use Rattle.std.specs.Prelude.{Option}
use Rattle.edge_io.specs.Told.{appended, AppendedSome}
use Rattle.edge_io.proofs.ToldLemmas.{AppendedSome-second, AppendedSome-first}

-- a beginning of a text is one of the whole, where something went out before it and something comes after it
pub AppendedSome-inside : (old mid new : Option (List ℕ)) (before text after whole : List ℕ)
    → mid ≡ appended old before → AppendedSome mid new text → whole ≡ before ++ (text ++ after) → AppendedSome old new whole
AppendedSome-inside old mid new before text after whole e p w =
    subst (AppendedSome old new) (sym w) (AppendedSome-second old mid new before (text ++ after) e (AppendedSome-first mid new text after p))

-- the pieces of a list: those before the i-th, the i-th, and those after it
pub flat_map-at : {X : Type 0} (f : X → List ℕ) (xs : List X) (i : ℕ) (x : X) → i < length xs
    → flat_map f xs ≡ flat_map f (take i xs) ++ (f (get_or xs i x) ++ flat_map f (drop (suc i) xs))
flat_map-at f xs i x h =
    ap (flat_map f) (sym (take-append-drop i xs)) ∙ flat_map-append f (take i xs) (drop i xs)
    ∙ ap (λ l. flat_map f (take i xs) ++ flat_map f l) (drop-cons xs i x h)
