-- What is untold in a log from a position on.
use Rattle.std.proofs.Common.{◌≡◌, ℕ, ◌<◌, ◌≤◌, inl, inr, Bool, List, [], ◌∷◌, ◌++◌, Less, refl, ap, ◌∙◌, arith}
use Rattle.std.specs.List.{AllByRecursion}
use Rattle.std.specs.List.Sorted.{IsStrictlySortedBy}
use Rattle.std.specs.Ordering.{nat_cmp, ordering_then}
use Rattle.std.specs.declared.cmp.Ordering.{Ordering}
use Rattle.std.proofs.lemmas.Bool.{cases_lt}
use Rattle.std.proofs.lemmas.List.Elements.{recursion_from_All}
use Rattle.kube_meta.specs.declared.objects.Obj.{Obj}
use Rattle.kube_meta.specs.declared.resources.Resource.{Resource}
use Rattle.rev_log.specs.Logs.{Log, IsLog}
use Rattle.select_all.specs.Streams.{TransitionData, transition_cmp, transitions_by}
use Rattle.select_all.proofs.OrderLaws.{transitions_in_order}

-- ---- a list cut in two where a number is passed

-- the first, if there is one, is above a number
abbrev pub BeginsAbove : ℕ → List TransitionData → Type 0
BeginsAbove b [] = Unit {0}
BeginsAbove b (t ∷ more) = b < t.rev

pub cut : (b : ℕ) (xs rest ys above : List TransitionData) → xs ++ rest ≡ ys ++ above
    → AllByRecursion (λ (t : TransitionData). t.rev ≤ b) xs → AllByRecursion (λ (t : TransitionData). t.rev ≤ b) ys → BeginsAbove b rest → BeginsAbove b above
    → (xs ≡ ys) × (rest ≡ above)
cut b [] rest [] above e low others begins ends = (refl, e)
cut b [] [] (y ∷ ys) above e low others begins ends = absurd (cc)
cut b [] (t ∷ more) (y ∷ ys) above e low others begins ends =
    let same : t ≡ y = cc in
    let rev_is : t.rev ≡ y.rev = ap (λ (z : TransitionData). z.rev) same in
    absurd (omega (arith, others.0))
cut b (x ∷ xs) rest [] [] e low others begins ends = absurd (cc)
cut b (x ∷ xs) rest [] (t ∷ more) e low others begins ends =
    let same : x ≡ t = cc in
    let rev_is : x.rev ≡ t.rev = ap (λ (z : TransitionData). z.rev) same in
    absurd (omega (arith, low.0))
cut b (x ∷ xs) rest (y ∷ ys) above e low others begins ends =
    let same : x ≡ y = cc in
    let tails : xs ++ rest ≡ ys ++ above = cc in
    let found = cut b xs rest ys above tails low.1 others.1 begins ends in
    (ap (λ (l : List TransitionData). x ∷ l) found.0 ∙ ap (λ (z : TransitionData). z ∷ ys) same, found.1)

-- ---- transitions that rise from a number up to another

abbrev pub Rise : ℕ → ℕ → List TransitionData → Type 0
Rise low end [] = Unit {0}
Rise low end (t ∷ more) = (low ≤ t.rev) × (0 < t.rev) × (t.rev ≤ end) × Rise t.rev end more

pub rise-from : (low later end : ℕ) (rest : List TransitionData) → BeginsAbove later rest → Rise low end rest → Rise later end rest
rise-from low later end [] begins rise = tt
rise-from low later end (t ∷ more) begins rise = (omega arith, rise.1, rise.2, rise.3)

not_less : (a b : ℕ) (later : Ordering) → b < a → ordering_then (nat_cmp a b) later ≡ Less → ⊥
not_less a b later past less = grind (arith, nat_cmp)

rev-le : (a b : TransitionData) → transition_cmp a b ≡ Less → a.rev ≤ b.rev
rev-le a b less = elim (cases_lt b.rev a.rev) [
  | inl past ↦ absurd (not_less a.rev b.rev _ past less)
  | inr fine ↦ fine
]

-- what stands behind a transition isn't below it
not_below : (t : TransitionData) (xs : List TransitionData) → AllByRecursion (λ (u : TransitionData). transition_cmp t u ≡ Less) xs → AllByRecursion (λ (u : TransitionData). t.rev ≤ u.rev) xs
not_below t [] less = tt
not_below t (u ∷ xs) less = (rev-le t u less.0, not_below t xs less.1)

rises-from : (low end r : ℕ) (xs : List TransitionData) → IsStrictlySortedBy transition_cmp xs → AllByRecursion (λ (u : TransitionData). (low < u.rev) × (u.rev ≤ end)) xs
    → AllByRecursion (λ (u : TransitionData). r ≤ u.rev) xs → Rise r end xs
unfolding IsStrictlySortedBy
rises-from low end r [] sorted within least = tt
rises-from low end r (u ∷ xs) sorted within least =
    (least.0, omega (arith, within.0), omega (arith, within.0), rises-from low end u.rev xs sorted.1 within.1 (not_below u xs sorted.0))

above_least : (low end : ℕ) (xs : List TransitionData) → AllByRecursion (λ (u : TransitionData). (low < u.rev) × (u.rev ≤ end)) xs → AllByRecursion (λ (u : TransitionData). low ≤ u.rev) xs
above_least low end [] within = tt
above_least low end (u ∷ xs) within = (omega (arith, within.0), above_least low end xs within.1)

module _ (test : Obj → Bool) (log : Log) (resource : Resource) (is : IsLog log) where
  pub untold_within : (a b : ℕ) → AllByRecursion (λ (t : TransitionData). (a < t.rev) × (t.rev ≤ b)) (transitions_by test log resource a b)
  untold_within a b = recursion_from_All (λ (t : TransitionData). (a < t.rev) × (t.rev ≤ b)) (transitions_by test log resource a b) (transitions_in_order test log resource a b is).1

  pub untold_rises : (a b : ℕ) → Rise a b (transitions_by test log resource a b)
  untold_rises a b =
      rises-from a b a (transitions_by test log resource a b) (transitions_in_order test log resource a b is).0 (untold_within a b)
      (above_least a b (transitions_by test log resource a b) (untold_within a b))
