-- The revisions of slots, and the quiet ones between them.
use Rattle.std.proofs.Common.{◌≡◌, ℕ, zero, suc, ◌+◌, ◌-◌, ◌<◌, ◌≤◌, true, false, eqb, List, [], ◌∷◌, ◌++◌, length, map, Option, Some, None, Less, Equal, Greater, refl, sym, ap, ◌∙◌, subst, inl, inr, arith}
use Rattle.std.specs.Prelude.{IsSome}
use Rattle.std.specs.List.{AllByRecursion}
use Rattle.std.specs.List.Sorted.{IsStrictlySortedBy, IsPermutation}
use Rattle.std.specs.Ordering.{is_eq, nat_cmp}
use Rattle.std.proofs.lemmas.Bool.{cases_Bool, cases_lt, cases_eq, le-ltb, eq-eqb, ne_eqb, eqb-true}
use Rattle.std.proofs.lemmas.List.Sorted.{IsPermutation-refl, length_permutation}
use Rattle.select_all.proofs.OrderLaws.{same_number}
use Rattle.rev_front.specs.Passes.{FitFrom, quiets}
use Rattle.rev_log.specs.Changes.{ChangeData, RevisionData}
use Rattle.rev_log.specs.Logs.{Fits, quiet_at}
use Rattle.up_store.specs.Hearing.{AreAscending, filled}
use Rattle.up_store.proofs.ChangedLemmas.{quiet-fits, quiets-length}
use Rattle.mirror_log.specs.Slots.{SlotsData, of_rev, slot_of, changes_in, Hold, AreMadeOf}
use Rattle.mirror_log.proofs.OutcomeLemmas.{IsMade}
use Rattle.mirror_log.proofs.SlotLemmas.{is_eq-nat_cmp, slot_own}

-- ---- what holds of revisions at their numbers

abbrev Fit : (ℕ → RevisionData → Type 0) → ℕ → List RevisionData → Type 0
Fit P from [] = Unit {0}
Fit P from (r ∷ revisions) = P (from + 1) r × Fit P (from + 1) revisions

module _ (P : ℕ → RevisionData → Type 0) where
  pub fit_from : (from : ℕ) (revisions : List RevisionData) → Fit P from revisions → FitFrom P from revisions
  fit_from from [] fit i r at = absurd (nothing at)
    where
      nothing : ◌≡◌ {A = Option RevisionData} None (Some r) → ⊥
      nothing e = cc
  fit_from from (x ∷ revisions) fit zero r at =
      let same : x ≡ r = cc in
      subst (λ (n : ℕ). P n r) (omega arith) (subst (P (from + 1)) same fit.0)
  fit_from from (x ∷ revisions) fit (suc i) r at = subst (λ (n : ℕ). P n r) (omega arith) (fit_from (from + 1) revisions fit.1 i r at)

  fit_append : (from : ℕ) (xs ys : List RevisionData) → Fit P from xs → Fit P (from + length xs) ys → Fit P from (xs ++ ys)
  fit_append from [] ys first second = subst (λ (n : ℕ). Fit P n ys) (omega arith) second
  fit_append from (x ∷ xs) ys first second = (first.0, fit_append (from + 1) xs ys first.1 (subst (λ (n : ℕ). Fit P n ys) (omega arith) second))

  quiet_fit : (from n : ℕ) → ((rev : ℕ) → from < rev → rev ≤ from + n → P rev (quiet_at rev)) → Fit P from (quiets quiet_at from n)
  quiet_fit from zero each = tt
  quiet_fit from (suc n) each = (each (from + 1) (omega arith) (omega arith), quiet_fit (from + 1) n (λ rev above within. each rev (omega (arith, above)) (omega (arith, within))))

-- none of the revisions has this number
abbrev pub HasNone : ℕ → List RevisionData → Type 0
HasNone rev revisions = AllByRecursion (λ r. r.rev ≡ rev → ⊥) revisions

none_below : (from rev : ℕ) (revisions : List RevisionData) (to : ℕ) → AreAscending from revisions to → rev ≤ from → HasNone rev revisions
none_below from rev [] to up below = tt
none_below from rev (r ∷ revisions) to up below = (λ same. absurd (omega (arith, same, up.0, below)), none_below r.rev rev revisions to up.2 (omega (arith, up.0, below)))

-- what holds of each revision at its number, and of the quiet one at each other number, holds of all up to the last
filled_fit : (P : ℕ → RevisionData → Type 0) (from : ℕ) (revisions : List RevisionData) (to : ℕ) → AreAscending from revisions to → AllByRecursion (λ r. P r.rev r) revisions
    → ((rev : ℕ) → from < rev → rev ≤ to → HasNone rev revisions → P rev (quiet_at rev)) → Fit P from (filled from revisions to)
filled_fit P from [] to up each quiet = quiet_fit P from (to - from) (λ rev above within. quiet rev above (omega (arith, within, above, up)) tt)
filled_fit P from (r ∷ revisions) to up each quiet =
    let end : from + length (quiets quiet_at from (r.rev - from - 1)) + 1 ≡ r.rev = omega (arith, quiets-length from (r.rev - from - 1), up.0) in
    let last : r.rev ≤ to = ends r.rev revisions to up.2 in
    fit_append P from (quiets quiet_at from (r.rev - from - 1)) (r ∷ filled r.rev revisions to)
    (quiet_fit P from (r.rev - from - 1) (λ rev above within.
    let below : rev < r.rev = omega (arith, within, up.0) in
    quiet rev above (omega (arith, below, last)) (λ same. absurd (omega (arith, same, below)), none_below r.rev rev revisions to up.2 (omega (arith, below))))) (
      subst (λ (n : ℕ). P n r) (sym end) each.0,
      subst (λ (n : ℕ). Fit P n (filled r.rev revisions to)) (sym end)
          (filled_fit P r.rev revisions to up.2 each.1 (λ rev above within none. quiet rev (omega (arith, above, up.0)) within (λ same. absurd (omega (arith, same, above)), none))),
    )
  where
    ends : (low : ℕ) (rs : List RevisionData) (high : ℕ) → AreAscending low rs high → low ≤ high
    ends low [] high is = is
    ends low (x ∷ rs) high is = omega (arith, is.0, ends x.rev rs high is.2)

-- rising revisions fit their places, the quiet ones too
pub filled_fits : (from : ℕ) (revisions : List RevisionData) (to : ℕ) → AreAscending from revisions to → FitFrom Fits from (filled from revisions to)
filled_fits from revisions to up = fit_from Fits from (filled from revisions to) (filled_fit Fits from revisions to up (each from revisions up) (λ rev above within none. quiet-fits rev))
  where
    each : (low : ℕ) (rs : List RevisionData) → AreAscending low rs to → AllByRecursion (λ r. Fits r.rev r) rs
    each low [] is = tt
    each low (r ∷ rs) is = ((refl, is.1), each r.rev rs is.2)

-- ---- slots in the order of their numbers

unequal : (a b : ℕ) → nat_cmp a b ≡ Less → a < b
unequal a b less = elim (cases_lt a b) [
  | inl below ↦ below
  | inr not ↦ absurd (elim (cases_eq a b) [
    | inl same ↦
        let bad : Equal ≡ Less = sym (ap (λ (n : ℕ). nat_cmp n b) same ∙ same_number b) ∙ less in
        cc
    | inr other ↦
        let greater : nat_cmp a b ≡ Greater = rw (le-ltb a b not, ne_eqb a b other) refl in
        let bad : Greater ≡ Less = sym greater ∙ less in
        cc
  ])
]

all_above : (rev : ℕ) (slots : SlotsData) → AllByRecursion (λ k. nat_cmp rev k ≡ Less) (map (λ s. s.0) slots) → AllByRecursion (λ s. rev < s.0) slots
all_above rev [] less = tt
all_above rev (s ∷ slots) less = (unequal rev s.0 less.0, all_above rev slots less.1)

-- each slot is that of its number
behind : (slot : ℕ × List ChangeData) (slots others : SlotsData) → AllByRecursion (λ s. slot.0 < s.0) others → AllByRecursion (λ s. slot_of slots s.0 ≡ Some s.1) others
    → AllByRecursion (λ s. slot_of (slot ∷ slots) s.0 ≡ Some s.1) others
behind slot slots [] above at = tt
behind slot slots (s ∷ others) above at =
    let isnt : is_eq (nat_cmp s.0 slot.0) ≡ false = is_eq-nat_cmp s.0 slot.0 ∙ ne_eqb s.0 slot.0 (λ same. absurd (omega (arith, same, above.0))) in
    (rw isnt at.0, behind slot slots others above.1 at.1)

pub own_slots : (slots : SlotsData) → IsStrictlySortedBy nat_cmp (map (λ s. s.0) slots) → AllByRecursion (λ s. slot_of slots s.0 ≡ Some s.1) slots
unfolding IsStrictlySortedBy
own_slots [] up = tt
own_slots (s ∷ slots) up =
    let is : is_eq (nat_cmp s.0 s.0) ≡ true = is_eq-nat_cmp s.0 s.0 ∙ eq-eqb s.0 s.0 refl in
    (rw is refl, behind s slots slots (all_above s.0 slots up.0) (own_slots slots up.1))

-- ---- made of slots

number_within : (from to n : ℕ) (given : List ChangeData) → AllByRecursion (λ c. (from < c.rev) × (c.rev ≤ to)) given → 0 < length (of_rev n given) → (from < n) × (n ≤ to)
number_within from to n [] bounds some = absurd (omega (arith, some))
number_within from to n (c ∷ given) bounds some = elim (cases_Bool (eqb c.rev n)) [
  | inl is ↦ let same : c.rev ≡ n = eqb-true c.rev n is in (omega (arith, same, bounds.0.0), omega (arith, same, bounds.0.1))
  | inr isnt ↦ number_within from to n given bounds.1 (rw isnt at some)
]

-- a number without a revision has no slot
none_slot : (rev : ℕ) (slots : SlotsData) (revisions : List RevisionData) → AreMadeOf slots revisions → HasNone rev revisions → slot_of slots rev ≡ None
none_slot rev [] [] made none = refl
none_slot rev [] (r ∷ revisions) made none = absurd made
none_slot rev (s ∷ slots) [] made none = absurd made
none_slot rev (s ∷ slots) (r ∷ revisions) made none =
    let isnt : is_eq (nat_cmp rev s.0) ≡ false = is_eq-nat_cmp rev s.0 ∙ ne_eqb rev s.0 (λ same. none.0 (made.0.0 ∙ sym same)) in
    rw isnt (none_slot rev slots revisions made.1 none.1)

ascending : (from to : ℕ) (slots : SlotsData) (revisions : List RevisionData) → IsStrictlySortedBy nat_cmp (map (λ s. s.0) slots) → AreMadeOf slots revisions
    → AllByRecursion (λ s. from < s.0) slots → AllByRecursion (λ s. s.0 ≤ to) slots → from ≤ to → AreAscending from revisions to
unfolding IsStrictlySortedBy
ascending from to [] [] up made above within order = order
ascending from to [] (r ∷ revisions) up made above within order = absurd made
ascending from to (s ∷ slots) [] up made above within order = absurd made
ascending from to (s ∷ slots) (r ∷ revisions) up made above within order =
    let number : r.rev ≡ s.0 = made.0.0 in (
      omega (arith, number, above.0),
      made.0.1,
      subst (λ (n : ℕ). AreAscending n revisions to) (sym number) (ascending s.0 to slots revisions up.1 made.1 (all_above s.0 slots up.0) within.1 within.0),
    )

each_slot : (P Q : (ℕ × List ChangeData) → Type 0) → ((s : ℕ × List ChangeData) → P s → Q s) → (slots : SlotsData) → AllByRecursion P slots → AllByRecursion Q slots
each_slot P Q so [] all = tt
each_slot P Q so (s ∷ slots) all = (so s all.0, each_slot P Q so slots all.1)

each_made : (given : List ChangeData) (slots : SlotsData) (revisions : List RevisionData) → AreMadeOf slots revisions → AllByRecursion (λ s. s.1 ≡ of_rev s.0 given) slots → AllByRecursion (λ r. IsMade given r.rev r) revisions
each_made given [] [] made own = tt
each_made given [] (r ∷ revisions) made own = absurd made
each_made given (s ∷ slots) [] made own = absurd made
each_made given (s ∷ slots) (r ∷ revisions) made own =
    let same : s.1 ≡ of_rev r.rev given = own.0 ∙ ap (λ (n : ℕ). of_rev n given) (sym made.0.0) in
    (record { number = refl; is = made.0.1; changes = subst (λ (l : List ChangeData). IsPermutation l r.changes) same made.0.2 }, each_made given slots revisions made.1 own.1)

each_changes : (slots : SlotsData) (revisions : List RevisionData) → AreMadeOf slots revisions → AllByRecursion (λ s. 0 < length s.1) slots → AllByRecursion (λ r. 0 < length r.changes) revisions
each_changes [] [] made some = tt
each_changes [] (r ∷ revisions) made some = absurd made
each_changes (s ∷ slots) [] made some = absurd made
each_changes (s ∷ slots) (r ∷ revisions) made some = (omega (arith, length_permutation s.1 r.changes made.0.2, some.0), each_changes slots revisions made.1 some.1)

module _ (from to : ℕ) (given : List ChangeData) (slots : SlotsData) (revisions : List RevisionData) (order : from ≤ to) (hold : Hold slots given)
    (bounds : AllByRecursion (λ c. (from < c.rev) × (c.rev ≤ to)) given) (up : IsStrictlySortedBy nat_cmp (map (λ s. s.0) slots)) (made : AreMadeOf slots revisions) where
  placed : AllByRecursion (λ s. slot_of slots s.0 ≡ Some s.1) slots
  placed = own_slots slots up

  some : AllByRecursion (λ s. 0 < length s.1) slots
  some = each_slot (λ s. slot_of slots s.0 ≡ Some s.1) (λ s. 0 < length s.1)
      (λ s is. subst (λ (o : Option (List ChangeData)). 0 < length (changes_in o)) is (hold.some s.0 (subst (λ (o : Option (List ChangeData)). IsSome o) (sym is) refl))) slots placed

  numbered : AllByRecursion (λ s. (from < s.0) × (s.0 ≤ to)) slots
  numbered = each_slot (λ s. slot_of slots s.0 ≡ Some s.1) (λ s. (from < s.0) × (s.0 ≤ to))
      (λ s is. number_within from to s.0 given bounds
      (subst (λ (l : List ChangeData). 0 < length l) (hold.has s.0) (hold.some s.0 (subst (λ (o : Option (List ChangeData)). IsSome o) (sym is) refl)))) slots placed

  pub rise : AreAscending from revisions to
  rise = ascending from to slots revisions up made
      (each_slot (λ s. (from < s.0) × (s.0 ≤ to)) (λ s. from < s.0) (λ s b. b.0) slots numbered)
      (each_slot (λ s. (from < s.0) × (s.0 ≤ to)) (λ s. s.0 ≤ to) (λ s b. b.1) slots numbered) order

  pub change : AllByRecursion (λ r. 0 < length r.changes) revisions
  change = each_changes slots revisions made some

  pub are_made : AllByRecursion (λ r. IsMade given r.rev r) revisions
  are_made = each_made given slots revisions made
      (each_slot (λ s. slot_of slots s.0 ≡ Some s.1) (λ s. s.1 ≡ of_rev s.0 given) (λ s is. slot_own slots given s.0 s.1 hold is) slots placed)

  -- at each number stands what was given of it
  pub made_fit : FitFrom (IsMade given) from (filled from revisions to)
  made_fit = fit_from (IsMade given) from (filled from revisions to)
      (filled_fit (IsMade given) from revisions to rise are_made (λ rev above within none.
      let nothing : of_rev rev given ≡ [] = sym (hold.has rev) ∙ ap changes_in (none_slot rev slots revisions made none) in
      record { number = refl; is = (quiet-fits rev).1; changes = subst (λ (l : List ChangeData). IsPermutation l []) (sym nothing) (IsPermutation-refl []) }))
