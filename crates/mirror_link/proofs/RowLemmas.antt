-- Rows of an opening, one by one.
use Rattle.std.proofs.Common.{◌≡◌, ℕ, ◌-◌, Bool, true, false, List, [], ◌∷◌, ◌++◌, length, map, Option, All, Less, suc, refl, sym, ap, ◌∙◌, subst, arith}
use Rattle.std.specs.Prelude.{◌≤◌, ◌&&◌, nat_le}
use Rattle.std.specs.Cmp.Lexicographic.{slice_cmp}
use Rattle.std.specs.List.{AllByRecursion, AllZip, slice_get}
use Rattle.std.specs.List.Sorted.{IsStrictlySortedBy}
use Rattle.std.specs.Option.{option_map_or}
use Rattle.std.specs.Ordering.{nat_cmp, is_lt}
use Rattle.std.specs.declared.cmp.Ordering.{Ordering}
use Rattle.std.specs.declared.cmp.Ordering.TheVariants.{Equal, Greater}
use Rattle.std.proofs.lemmas.Cmp.{nat_list_cmp_total}
use Rattle.std.proofs.lemmas.List.Elements.{All-from_recursion}
use Rattle.std.proofs.lemmas.Bool.Decides.{nat_tests}
use Rattle.kube_meta.specs.Rows.{RowData, key_of, AreRising}
use Rattle.mirror_link.specs.Reading.{is_above_last, are_upto}

less : (o : Ordering) → is_lt o ≡ true → o ≡ Less
less Less is = refl
less Equal is = cc
less Greater is = cc

last_of_more : (x y : RowData) (rows : List RowData) → slice_get (x ∷ y ∷ rows) (length (x ∷ y ∷ rows) - 1) ≡ slice_get (y ∷ rows) (length (y ∷ rows) - 1)
last_of_more x y rows =
    let n : length (x ∷ y ∷ rows) - 1 ≡ suc (length (y ∷ rows) - 1) = omega arith in
    ap (slice_get (x ∷ y ∷ rows)) n

-- if a key is above that of the last row, it is above all
above_all : (rows : List RowData) (key : List ℕ) → AreRising rows → is_above_last rows key ≡ true → AllByRecursion (λ (k : List ℕ). slice_cmp nat_cmp k key ≡ Less) (map key_of rows)
unfolding IsStrictlySortedBy
above_all [] key rising next = tt
above_all (x ∷ []) key rising next = (less (slice_cmp nat_cmp (key_of x) key) next, tt)
above_all (x ∷ y ∷ rows) key rising next =
    let rest = above_all (y ∷ rows) key rising.1 (sym (ap (λ (last : Option RowData). option_map_or (λ row. is_lt (slice_cmp nat_cmp (key_of row) key)) last true) (last_of_more x y rows)) ∙ next) in
    (nat_list_cmp_total.trans (key_of x) (key_of y) key rising.0.0 rest.0, rest)

push_sorted : (keys : List (List ℕ)) (key : List ℕ) → IsStrictlySortedBy (slice_cmp nat_cmp) keys → AllByRecursion (λ (k : List ℕ). slice_cmp nat_cmp k key ≡ Less) keys
    → IsStrictlySortedBy (slice_cmp nat_cmp) (keys ++ key ∷ [])
unfolding IsStrictlySortedBy
push_sorted [] key sorted below = (tt, tt)
push_sorted (k ∷ keys) key sorted below = (behind keys sorted.0, push_sorted keys key sorted.1 below.1)
  where
    behind : (others : List (List ℕ)) → AllByRecursion (λ (o : List ℕ). slice_cmp nat_cmp k o ≡ Less) others → AllByRecursion (λ (o : List ℕ). slice_cmp nat_cmp k o ≡ Less) (others ++ key ∷ [])
    behind [] above = (below.0, tt)
    behind (o ∷ others) above = (above.0, behind others above.1)

pub map_push : {A B : Type 0} (f : A → B) (xs : List A) (x : A) → map f (xs ++ x ∷ []) ≡ map f xs ++ f x ∷ []
map_push f [] x = refl
map_push f (y ∷ xs) x = ap (λ rest. f y ∷ rest) (map_push f xs x)

-- then the rows go on rising
pub rising_push : (rows : List RowData) (row : RowData) → AreRising rows → is_above_last rows (key_of row) ≡ true → AreRising (rows ++ row ∷ [])
rising_push rows row rising next =
    subst (IsStrictlySortedBy (slice_cmp nat_cmp)) (sym (map_push key_of rows row)) (push_sorted (map key_of rows) (key_of row) rising (above_all rows (key_of row) rising next))

upto : (a b : ℕ) → nat_le a b ≡ true → a ≤ b
upto a b is = grind (arith, nat_tests)

-- none is younger
pub all_upto : (rows : List RowData) (at : ℕ) → are_upto rows at ≡ true → All (λ row. row.rev ≤ at) rows
all_upto rows at are = All-from_recursion (λ row. row.rev ≤ at) rows (each rows are)
  where
    both : (a b : Bool) → (a && b) ≡ true → (a ≡ true) × (b ≡ true)
    both true true is = (refl, refl)
    both true false is = cc
    both false b is = cc

    each : (rows : List RowData) → are_upto rows at ≡ true → AllByRecursion (λ row. row.rev ≤ at) rows
    each [] are = tt
    each (row ∷ rows) are = let parts = both (nat_le row.rev at) (are_upto rows at) are in (upto row.rev at parts.0, each rows parts.1)

-- one more of each
pub zip_push : {A B : Type 0} (R : A → B → Type 0) (xs : List A) (ys : List B) (x : A) (y : B) → AllZip R xs ys → R x y → AllZip R (xs ++ x ∷ []) (ys ++ y ∷ [])
zip_push R [] [] x y all one = (one, tt)
zip_push R [] (b ∷ ys) x y all one = absurd all
zip_push R (a ∷ xs) [] x y all one = absurd all
zip_push R (a ∷ xs) (b ∷ ys) x y all one = (all.0, zip_push R xs ys x y all.1 one)
