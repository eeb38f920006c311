-- Lists that are gone over from the front.
use Rattle.std.proofs.Common.{◌≡◌, ℕ, ◌+◌, ◌<◌, Bool, true, false, List, [], ◌∷◌, ◌++◌, length, map, filter, find, take, drop, get_or, sym, ap, ◌∙◌, cond}
use Rattle.std.specs.Prelude.{None, Some}
use Rattle.std.specs.Option.{option_or}
use Rattle.std.proofs.lemmas.List.{take_more, map-append, take-append-drop}
use Rattle.std.proofs.lemmas.List.Folds.{find-append}
use Rattle.std.proofs.lemmas.List.Elements.{filter-append}

module _ {X Y : Type 0} (f : X → Y) where
  -- the images of one more element
  map-take_more : (xs : List X) (i : ℕ) (d : X) → i < length xs → map f (take (i + 1) xs) ≡ map f (take i xs) ++ (f (get_or xs i d) ∷ [])
  map-take_more xs i d h = ap (map f) (take_more xs i d h) ∙ map-append f (take i xs) (get_or xs i d ∷ [])

  -- the images of all elements, around one
  map-around : (xs : List X) (i : ℕ) (d : X) → i < length xs
      → map f xs ≡ map f (take (i + 1) xs) ++ map f (drop (i + 1) xs)
  map-around xs i d h = ap (map f) (sym (take-append-drop (i + 1) xs)) ∙ map-append f (take (i + 1) xs) (drop (i + 1) xs)

  module _ (p : Y → Bool) where
    find_one : (y : Y) (b : Bool) → p y ≡ b → find p (y ∷ []) ≡ cond b (Some y) None
    find_one y b e = ap (λ (t : Bool). cond t (Some y) None) e

    -- none was found so far, and this one isn't it
    pub find-step : (xs : List X) (i : ℕ) (d : X) → i < length xs → find p (map f (take i xs)) ≡ None → p (f (get_or xs i d)) ≡ false
        → find p (map f (take (i + 1) xs)) ≡ None
    find-step xs i d h none other =
        ap (find p) (map-take_more xs i d h) ∙ find-append p _ _
        ∙ ap (λ o. option_or o (find p (f (get_or xs i d) ∷ []))) none ∙ find_one _ false other

    -- none was found so far, and this one is it
    pub find-here : (xs : List X) (i : ℕ) (d : X) → i < length xs → find p (map f (take i xs)) ≡ None → p (f (get_or xs i d)) ≡ true
        → find p (map f xs) ≡ Some (f (get_or xs i d))
    find-here xs i d h none same =
        ap (find p) (map-around xs i d h) ∙ find-append p _ _
        ∙ ap (λ o. option_or o (find p (map f (drop (i + 1) xs))))
        (ap (find p) (map-take_more xs i d h) ∙ find-append p _ _
        ∙ ap (λ o. option_or o (find p (f (get_or xs i d) ∷ []))) none ∙ find_one _ true same)

    filter_one : (y : Y) (b : Bool) → p y ≡ b → filter p (y ∷ []) ≡ cond b (y ∷ []) []
    filter_one y b e = ap (λ (t : Bool). cond t (y ∷ []) []) e

    -- what passes, up to and with one element
    pub filter-step : (xs : List X) (i : ℕ) (d : X) (b : Bool) → i < length xs → p (f (get_or xs i d)) ≡ b
        → filter p (map f (take (i + 1) xs)) ≡ filter p (map f (take i xs)) ++ cond b (f (get_or xs i d) ∷ []) []
    filter-step xs i d b h e =
        ap (filter p) (map-take_more xs i d h) ∙ filter-append p _ _ ∙ ap (λ l. filter p (map f (take i xs)) ++ l) (filter_one _ b e)

    -- what passes in all
    pub filter-around : (xs : List X) (i : ℕ) (d : X) → i < length xs
        → filter p (map f xs) ≡ filter p (map f (take (i + 1) xs)) ++ filter p (map f (drop (i + 1) xs))
    filter-around xs i d h = ap (filter p) (map-around xs i d h) ∙ filter-append p _ _
