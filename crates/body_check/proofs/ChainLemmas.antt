-- Lists above, one after the other.
use Rattle.std.proofs.Common.{◌≡◌, ℕ, ◌+◌, ◌<◌, ◌≤◌, Bool, true, false, List, [], ◌∷◌, ◌++◌, length, map, get_or, take, drop, arith, Option, Some, None, refl, sym, ap, ◌∙◌, subst, inl, inr}
use Rattle.std.proofs.lemmas.List.{drop_more, take_more, get_or-map, length-map}
use Rattle.kube_meta.specs.declared.resources.Resource.{Resource}
use Rattle.kube_meta.specs.declared.resources.Resource.TheVariants.{Pods}
use Rattle.kube_meta.specs.Resources.{same_resource}
use Rattle.kube_meta.specs.Rows.{RowData}
use Rattle.select_all.specs.declared.selection.Selection.{Selection}
use Rattle.watch_record.specs.Between.{LaterData}
use Rattle.body_check.specs.Turns.{MayStand}
use Rattle.body_check.specs.Heard.{AreOnward, CanFollow, CannotFollow, ComesAfter, IsBridged, IsFirstAgainst, MayBegin}

pub comes : (s : Selection) (from : ℕ) (old : List RowData) (list : LaterData) → MayStand s list.at list.rows → (b : Bool) → IsBridged from old list.at list.rows b → ComesAfter s from old list b
comes s from old list stand true bridged = record { stand = stand; revisions = bridged.0; bridges = bridged.1 }
comes s from old list stand false none = λ again. none

pub begins_others : (s : Selection) (from : ℕ) (rows : List RowData) → MayStand s from rows → same_resource s.resource Pods ≡ false → (b : Bool) → IsBridged 0 [] from rows b → MayBegin s from rows b
begins_others s from rows stand other true bridged = (stand, inr (record { stand = stand; revisions = bridged.0; bridges = bridged.1 }))
begins_others s from rows stand other false none = λ again. (other, none)

-- the list at a place, and those behind it
pub next_list : (lists : List LaterData) (n : ℕ) (x : LaterData) → n < length lists → x ≡ get_or lists n x → drop n lists ≡ x ∷ drop (n + 1) lists
next_list lists n x inside is = drop_more lists n x inside ∙ ap (λ (l : LaterData). l ∷ drop (n + 1) lists) (sym is)

-- the texts up to one place more
pub next_text : {X : Type 0} (xs ys : List X) (f : X → List ℕ) (texts : List (List ℕ)) (n : ℕ) (d : X) → xs ≡ ys → map f ys ≡ texts → n < length xs
    → (n < length texts) × (take (n + 1) texts ≡ take n texts ++ f (get_or xs n d) ∷ [])
next_text xs ys f texts n d lists same inside =
    let long : n < length (map f xs) = omega (arith, inside, length-map xs f) in
    subst (λ (ts : List (List ℕ)). (n < length ts) × (take (n + 1) ts ≡ take n ts ++ f (get_or xs n d) ∷ [])) (ap (map f) lists ∙ same)
    (long, take_more (map f xs) n (f d) long ∙ ap (λ (t : List ℕ). take n (map f xs) ++ t ∷ []) (get_or-map f xs n d (f d) inside))

-- and all of them
pub all_past : {X : Type 0} (xs ys : List X) (f : X → List ℕ) (texts : List (List ℕ)) (n : ℕ) → xs ≡ ys → map f ys ≡ texts → length xs ≤ n → length texts ≤ n
all_past xs ys f texts n lists same past = omega (arith, past, length-map xs f, ap length (ap (map f) lists ∙ same))

-- ---- the same, said of equal values

pub first_moved : (s t : Selection) (to : ℕ) (old now : List RowData) (left : List LaterData) (found place : Option ℕ) → s ≡ t → old ≡ now → found ≡ place → IsFirstAgainst s to old left found → IsFirstAgainst t to now left place
first_moved s t to old now left found place same rows places is =
    subst (IsFirstAgainst t to now left) places (subst (λ (r : List RowData). IsFirstAgainst t to r left found) rows (subst (λ (x : Selection). IsFirstAgainst x to old left found) same is))

pub begin_moved : (s t : Selection) (from at : ℕ) (rows others : List RowData) (b d : Bool) → s ≡ t → from ≡ at → rows ≡ others → b ≡ d → MayBegin s from rows b → MayBegin t at others d
begin_moved s t from at rows others b d same revs lists bools is =
    subst (MayBegin t at others) bools (subst (λ (r : List RowData). MayBegin t at r b) lists (subst (λ (n : ℕ). MayBegin t n rows b) revs (subst (λ (x : Selection). MayBegin x from rows b) same is)))
