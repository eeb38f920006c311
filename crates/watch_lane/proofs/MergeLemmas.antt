-- Two rising lists of numbers that are merged into one.
use Rattle.std.proofs.Common.{◌≡◌, ◌||◌, ℕ, ◌+◌, ◌-◌, zero, suc, ◌<◌, ◌≤◌, List, [], ◌∷◌, ◌++◌, append_assoc, length, take, drop, drop-cons, get_or, refl, sym, ◌∙◌, ap, subst, arith}
use Rattle.std.specs.Ordering.{is_eq, nat_cmp}
use Rattle.std.specs.List.Sorted.{IsStrictlyIncreasing, IsStrictlySortedBy}
use Rattle.std.proofs.lemmas.List.{take_all, length-drop}
use Rattle.watch_lane.specs.Index.{is_listed}
use Rattle.watch_lane.proofs.Numbers.{increasing_from_sorted, list_any-append}

-- a number is below the first of a list
abbrev pub IsBelow : ℕ → List ℕ → Type 0
IsBelow x [] = Unit {0}
IsBelow x (y ∷ ys) = x < y

-- each number is below the next
abbrev pub Rises : List ℕ → Type 0
Rises [] = Unit {0}
Rises (x ∷ xs) = IsBelow x xs × Rises xs

pub rises : (xs : List ℕ) → IsStrictlyIncreasing xs → Rises xs
rises [] up = tt
rises (x ∷ []) up = (tt, tt)
rises (x ∷ y ∷ ys) up = (up 0 (omega arith), rises (y ∷ ys) (λ k h. grind (arith, up (k + 1) (omega (arith, h)))))

pub increases : (xs : List ℕ) → Rises xs → IsStrictlyIncreasing xs
increases [] up k h = absurd (omega (arith, h))
increases (x ∷ []) up k h = absurd (omega (arith, h))
increases (x ∷ y ∷ ys) up zero h = up.0
increases (x ∷ y ∷ ys) up (suc k) h = grind (arith, increases (y ∷ ys) up.1 k (omega (arith, h)))

-- the end of a rising list
rises_end : (xs ys : List ℕ) → Rises (xs ++ ys) → Rises ys
rises_end [] ys up = up
rises_end (x ∷ xs) ys up = rises_end xs ys up.1

-- its head, with another end
rises_on : (xs : List ℕ) (x : ℕ) (ys zs : List ℕ) → Rises (xs ++ x ∷ ys) → IsBelow x zs → Rises zs → Rises ((xs ++ x ∷ []) ++ zs)
rises_on [] x ys zs up below end = (below, end)
rises_on (w ∷ []) x ys zs up below end = (up.0, (below, end))
rises_on (w ∷ v ∷ xs) x ys zs up below end = (up.0, rises_on (v ∷ xs) x ys zs up.1 below end)

-- what was merged so far, and what is left of both
pub record AreMerged (ids keys list left rest : List ℕ) : Type 0 where
  pub before_left : Rises (list ++ left)
  pub before_rest : Rises (list ++ rest)
  pub has : (i : ℕ) → (is_listed list i || (is_listed left i || is_listed rest i)) ≡ (is_listed ids i || is_listed keys i)

-- a number comes from the first
merge_left : (ids keys list : List ℕ) (x : ℕ) (left : List ℕ) (y : ℕ) (rest : List ℕ) → x < y → AreMerged ids keys list (x ∷ left) (y ∷ rest) → AreMerged ids keys (list ++ x ∷ []) left (y ∷ rest)
merge_left ids keys list x left y rest below merged = record {
  before_left = subst Rises (sym (append_assoc list (x ∷ []) left)) merged.before_left;
  before_rest = rises_on list x left (y ∷ rest) merged.before_left below (rises_end list (y ∷ rest) merged.before_rest);
  has = λ i. grind (arith, list_any-append (λ other. is_eq (nat_cmp i other)) list x, merged.has i);
}

-- a number comes from the second
merge_rest : (ids keys list left : List ℕ) (y : ℕ) (rest : List ℕ) → IsBelow y left → AreMerged ids keys list left (y ∷ rest) → AreMerged ids keys (list ++ y ∷ []) left rest
merge_rest ids keys list left y rest below merged = record {
  before_left = rises_on list y rest left merged.before_rest below (rises_end list left merged.before_left);
  before_rest = subst Rises (sym (append_assoc list (y ∷ []) rest)) merged.before_rest;
  has = λ i. grind (arith, list_any-append (λ other. is_eq (nat_cmp i other)) list y, merged.has i);
}

-- a number comes from both
merge_both : (ids keys list : List ℕ) (y : ℕ) (left rest : List ℕ) → AreMerged ids keys list (y ∷ left) (y ∷ rest) → AreMerged ids keys (list ++ y ∷ []) left rest
merge_both ids keys list y left rest merged = record {
  before_left = subst Rises (sym (append_assoc list (y ∷ []) left)) merged.before_left;
  before_rest = subst Rises (sym (append_assoc list (y ∷ []) rest)) merged.before_rest;
  has = λ i. grind (arith, list_any-append (λ other. is_eq (nat_cmp i other)) list y, merged.has i);
}

-- ---- the first by its places

-- what was merged, where the first is left from a place on
abbrev pub AreMergedTo : (ids keys list : List ℕ) (at : ℕ) (rest : List ℕ) → Type 0
AreMergedTo ids keys list at rest = (at ≤ length ids) × AreMerged ids keys list (drop at ids) rest

pub merge_begins : (ids keys list rest : List ℕ) → list ≡ [] → rest ≡ keys → IsStrictlyIncreasing ids → IsStrictlySortedBy nat_cmp keys → AreMergedTo ids keys list 0 rest
merge_begins ids keys list rest none all up ordered = (
  omega arith,
  subst (λ l. AreMerged ids keys l ids rest) (sym none) (subst (AreMerged ids keys [] ids) (sym all)
      (record { before_left = rises ids up; before_rest = rises keys (increasing_from_sorted keys ordered); has = λ i. refl })),
)

left_is : (ids : List ℕ) (at : ℕ) → at < length ids → drop at ids ≡ get_or ids at 0 ∷ drop (at + 1) ids
left_is ids at within = drop-cons ids at 0 within ∙ ap (λ n. get_or ids at 0 ∷ drop n ids) (let next : suc at ≡ at + 1 = omega arith in next)

below_left : (ids : List ℕ) (at y : ℕ) → (at < length ids → y < get_or ids at 0) → IsBelow y (drop at ids)
below_left [] zero y below = tt
below_left [] (suc at) y below = tt
below_left (x ∷ xs) zero y below = below (omega arith)
below_left (x ∷ xs) (suc at) y below = below_left xs at y (λ h. below (omega (arith, h)))

pub left_goes : (ids keys list new : List ℕ) (at y : ℕ) (rest : List ℕ) → at < length ids → get_or ids at 0 < y → new ≡ list ++ get_or ids at 0 ∷ [] →
    AreMergedTo ids keys list at (y ∷ rest) → AreMergedTo ids keys new (at + 1) (y ∷ rest)
left_goes ids keys list new at y rest within below is merged = (
  omega (arith, within),
  subst (λ l. AreMerged ids keys l (drop (at + 1) ids) (y ∷ rest)) (sym is)
      (merge_left ids keys list (get_or ids at 0) (drop (at + 1) ids) y rest below (subst (λ l. AreMerged ids keys list l (y ∷ rest)) (left_is ids at within) merged.1)),
)

pub rest_goes : (ids keys list new : List ℕ) (at y : ℕ) (rest : List ℕ) → (at < length ids → y < get_or ids at 0) → new ≡ list ++ y ∷ [] →
    AreMergedTo ids keys list at (y ∷ rest) → AreMergedTo ids keys new at rest
rest_goes ids keys list new at y rest below is merged =
    (merged.0, subst (λ l. AreMerged ids keys l (drop at ids) rest) (sym is) (merge_rest ids keys list (drop at ids) y rest (below_left ids at y below) merged.1))

pub both_go : (ids keys list new : List ℕ) (at y : ℕ) (rest : List ℕ) → at < length ids → get_or ids at 0 ≡ y → new ≡ list ++ y ∷ [] →
    AreMergedTo ids keys list at (y ∷ rest) → AreMergedTo ids keys new (at + 1) rest
both_go ids keys list new at y rest within same is merged = (
  omega (arith, within),
  subst (λ l. AreMerged ids keys l (drop (at + 1) ids) rest) (sym is)
      (merge_both ids keys list y (drop (at + 1) ids) rest (subst (λ l. AreMerged ids keys list l (y ∷ rest)) (left_is ids at within ∙ ap (λ x. x ∷ drop (at + 1) ids) same) merged.1)),
)

all_left : (ids : List ℕ) (at : ℕ) → take (length ids - at) (drop at ids) ≡ drop at ids
all_left ids at = take_all (length ids - at) (drop at ids) (omega (arith, length-drop at ids))

-- what is left of the first goes last
pub merge_ends : (ids keys list new : List ℕ) (at : ℕ) → new ≡ list ++ take (length ids - at) (drop at ids) → AreMergedTo ids keys list at [] → IsStrictlyIncreasing new
merge_ends ids keys list new at is merged = subst IsStrictlyIncreasing (sym (is ∙ ap (λ xs. list ++ xs) (all_left ids at))) (increases (list ++ drop at ids) merged.1.before_left)
