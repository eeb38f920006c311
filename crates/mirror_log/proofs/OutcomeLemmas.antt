-- What changes that aim at rows make of what stands.
use Rattle.std.proofs.Common.{◌≡◌, ◌⊎◌, ℕ, suc, ◌+◌, ◌<◌, ◌≤◌, Bool, true, false, eqb, List, [], ◌∷◌, length, fold, Option, bytes_eq, refl, sym, ap, ◌∙◌, subst, inl, inr, arith}
use Rattle.std.specs.List.{AllByRecursion, list_any}
use Rattle.std.specs.List.Sorted.{IsPermutation}
use Rattle.std.proofs.lemmas.Bool.{cases_Bool, eqb-true, eq-eqb, true≢false, or_parts}
use Rattle.std.proofs.lemmas.List.Elements.{All-from_recursion, recursion_from_All}
use Rattle.std.proofs.lemmas.List.Sorted.{All-permutation, list_any-IsPermutation}
use Rattle.kube_meta.specs.declared.resources.Resource.{Resource}
use Rattle.kube_meta.specs.Resources.{place_of, same_resource}
use Rattle.kube_meta.specs.Rows.{RowData}
use Rattle.rev_front.specs.Passes.{FitFrom}
use Rattle.rev_log.specs.Changes.{ChangeData, RevisionData, IsRevision}
use Rattle.rev_log.specs.Laws.{row_of}
use Rattle.rev_log.specs.States.{row_after, row_next}
use Rattle.mirror_log.specs.Slots.{of_rev}

-- the change is one of this key
abbrev pub is_of : List ℕ → ChangeData → Bool
is_of key c = bytes_eq c.key key

-- a change of the resource that leaves this at the key, if it is one of it
pub record Aims (resource : Resource) (key : List ℕ) (aim : Option RowData) (c : ChangeData) : Type 0 where
  pub alone : c.resource ≡ resource
  pub leaves : is_of key c ≡ true → row_of c ≡ aim

-- the same, at a revision
record AimsAt (resource : Resource) (key : List ℕ) (aim : Option RowData) (rev : ℕ) (c : ChangeData) : Type 0 where
  is : Aims resource key aim c
  number : c.rev ≡ rev

-- ---- one change

module _ (resource : Resource) (key : List ℕ) (aim : Option RowData) (rev : ℕ) where
  same : same_resource resource resource ≡ true
  same = eq-eqb (place_of resource) (place_of resource) refl

  other : (row : Option RowData) (c : ChangeData) → AimsAt resource key aim rev c → is_of key c ≡ false → row_after resource key rev row c ≡ row
  other row c aims isnt = rw (aims.is.alone, same, isnt) refl

  this : (row : Option RowData) (c : ChangeData) → AimsAt resource key aim rev c → is_of key c ≡ true → row_after resource key rev row c ≡ aim
  this row c aims is = rw (aims.is.alone, same, is, ← aims.number) (aims.is.leaves is)

  -- ---- changes

  none : (row : Option RowData) (cs : List ChangeData) → AllByRecursion (AimsAt resource key aim rev) cs → list_any (is_of key) cs ≡ false → fold (row_after resource key rev) row cs ≡ row
  none row [] aims lacks = refl
  none row (c ∷ cs) aims lacks =
      let both = or_parts (is_of key c) (list_any (is_of key) cs) lacks in
      ap (λ (r : Option RowData). fold (row_after resource key rev) r cs) (other row c aims.0 both.0) ∙ none row cs aims.1 both.1

  keep : (row : Option RowData) (cs : List ChangeData) → AllByRecursion (AimsAt resource key aim rev) cs → row ≡ aim → fold (row_after resource key rev) row cs ≡ aim
  keep row [] aims at = at
  keep row (c ∷ cs) aims at = elim (cases_Bool (is_of key c)) [
    | inl is ↦ keep (row_after resource key rev row c) cs aims.1 (this row c aims.0 is)
    | inr isnt ↦ keep (row_after resource key rev row c) cs aims.1 (other row c aims.0 isnt ∙ at)
  ]

  hit : (row : Option RowData) (cs : List ChangeData) → AllByRecursion (AimsAt resource key aim rev) cs → list_any (is_of key) cs ≡ true → fold (row_after resource key rev) row cs ≡ aim
  hit row [] aims some = absurd (true≢false (sym some))
  hit row (c ∷ cs) aims some = elim (cases_Bool (is_of key c)) [
    | inl is ↦ keep (row_after resource key rev row c) cs aims.1 (this row c aims.0 is)
    | inr isnt ↦
        let rest : list_any (is_of key) cs ≡ true = rw isnt at some in
        hit (row_after resource key rev row c) cs aims.1 rest
  ]

-- ---- revisions

-- the revision with this number is that of its changes among the given ones
pub record IsMade (given : List ChangeData) (at : ℕ) (revision : RevisionData) : Type 0 where
  pub number : revision.rev ≡ at
  pub is : IsRevision revision
  pub changes : IsPermutation (of_rev at given) revision.changes

numbered : (resource : Resource) (key : List ℕ) (aim : Option RowData) (at : ℕ) (given : List ChangeData) → AllByRecursion (Aims resource key aim) given → AllByRecursion (AimsAt resource key aim at) (of_rev at given)
numbered resource key aim at [] aims = tt
numbered resource key aim at (c ∷ given) aims = elim (cases_Bool (eqb c.rev at)) [
  | inl is ↦ rw is (record { is = aims.0; number = eqb-true c.rev at is }, numbered resource key aim at given aims.1)
  | inr isnt ↦ rw isnt (numbered resource key aim at given aims.1)
]

module _ (resource : Resource) (key : List ℕ) (aim : Option RowData) (given : List ChangeData) (aims : AllByRecursion (Aims resource key aim) given) where
  of_made : (at : ℕ) (revision : RevisionData) → IsMade given at revision → AllByRecursion (AimsAt resource key aim revision.rev) revision.changes
  of_made at revision made =
      let here = All-from_recursion (AimsAt resource key aim at) (of_rev at given) (numbered resource key aim at given aims) in
      let there = All-permutation (AimsAt resource key aim at) (of_rev at given) revision.changes made.changes here in
      subst (λ n. AllByRecursion (AimsAt resource key aim n) revision.changes) (sym made.number) (recursion_from_All (AimsAt resource key aim at) revision.changes there)

  same_any : (at : ℕ) (revision : RevisionData) → IsMade given at revision → list_any (is_of key) revision.changes ≡ list_any (is_of key) (of_rev at given)
  same_any at revision made = sym (list_any-IsPermutation (is_of key) (of_rev at given) revision.changes made.changes)

  next_none : (at : ℕ) (row : Option RowData) (revision : RevisionData) → IsMade given at revision → list_any (is_of key) (of_rev at given) ≡ false → row_next resource key row revision ≡ row
  next_none at row revision made lacks = none resource key aim revision.rev row revision.changes (of_made at revision made) (same_any at revision made ∙ lacks)

  next_hit : (at : ℕ) (row : Option RowData) (revision : RevisionData) → IsMade given at revision → list_any (is_of key) (of_rev at given) ≡ true → row_next resource key row revision ≡ aim
  next_hit at row revision made some = hit resource key aim revision.rev row revision.changes (of_made at revision made) (same_any at revision made ∙ some)

  next_keep : (at : ℕ) (row : Option RowData) (revision : RevisionData) → IsMade given at revision → row ≡ aim → row_next resource key row revision ≡ aim
  next_keep at row revision made is = keep resource key aim revision.rev row revision.changes (of_made at revision made) is

pub rest : (given : List ChangeData) (from : ℕ) (revision : RevisionData) (more : List RevisionData) → FitFrom (IsMade given) from (revision ∷ more) → FitFrom (IsMade given) (from + 1) more
rest given from revision more fit i found at = subst (λ n. IsMade given n found) (omega arith) (fit (suc i) found at)

pub first : (given : List ChangeData) (from : ℕ) (revision : RevisionData) (more : List RevisionData) → FitFrom (IsMade given) from (revision ∷ more) → IsMade given (from + 1) revision
first given from revision more fit = subst (λ n. IsMade given n revision) (omega arith) (fit 0 revision refl)

no_part : (key : List ℕ) (at : ℕ) (given : List ChangeData) → list_any (is_of key) given ≡ false → list_any (is_of key) (of_rev at given) ≡ false
no_part key at [] lacks = refl
no_part key at (c ∷ given) lacks =
    let both = or_parts (is_of key c) (list_any (is_of key) given) lacks in
    elim (cases_Bool (eqb c.rev at)) [
      | inl is ↦ rw (is, both.0) (no_part key at given both.1)
      | inr isnt ↦ rw isnt (no_part key at given both.1)
    ]

-- some change of the key is of a revision within these
abbrev pub IsWithin : List ℕ → ℕ → ℕ → List ChangeData → Type 0
IsWithin key low high [] = ⊥
IsWithin key low high (c ∷ given) = ((is_of key c ≡ true) × (low < c.rev) × (c.rev ≤ high)) ⊎ IsWithin key low high given

not_yet : (key : List ℕ) (low high : ℕ) (given : List ChangeData) → IsWithin key low high given → list_any (is_of key) (of_rev (low + 1) given) ≡ false → IsWithin key (low + 1) high given
not_yet key low high [] within lacks = absurd within
not_yet key low high (c ∷ given) (inl here) lacks = elim (cases_Bool (eqb c.rev (low + 1))) [
  | inl is ↦
      let some : list_any (is_of key) (of_rev (low + 1) (c ∷ given)) ≡ true = rw (is, here.0) refl in
      absurd (true≢false (sym some ∙ lacks))
  | inr isnt ↦ inl (here.0, beyond (c.rev) low here.1 (λ e. true≢false (sym (eq-eqb c.rev (low + 1) e) ∙ isnt)), here.2)
]
  where
    beyond : (n m : ℕ) → m < n → (n ≡ m + 1 → ⊥) → m + 1 < n
    beyond n m above isnt = omega (arith, above, isnt)
not_yet key low high (c ∷ given) (inr there) lacks = elim (cases_Bool (eqb c.rev (low + 1))) [
  | inl is ↦
      let both = or_parts (is_of key c) (list_any (is_of key) (of_rev (low + 1) given)) (rw is at lacks) in
      inr (not_yet key low high given there both.1)
  | inr isnt ↦ inr (not_yet key low high given there (rw isnt at lacks))
]

none_left : (key : List ℕ) (low : ℕ) (given : List ChangeData) → IsWithin key low low given → ⊥
none_left key low [] within = within
none_left key low (c ∷ given) (inl here) = absurd (omega (arith, here.1, here.2))
none_left key low (c ∷ given) (inr there) = none_left key low given there

module _ (resource : Resource) (key : List ℕ) (aim : Option RowData) (given : List ChangeData) (aims : AllByRecursion (Aims resource key aim) given) where
  -- a key of which there is no change keeps its row
  pub stays : (from : ℕ) (row : Option RowData) (revisions : List RevisionData) → FitFrom (IsMade given) from revisions → list_any (is_of key) given ≡ false → fold (row_next resource key) row revisions ≡ row
  stays from row [] made lacks = refl
  stays from row (r ∷ revisions) made lacks =
      ap (λ (o : Option RowData). fold (row_next resource key) o revisions) (next_none resource key aim given aims (from + 1) row r (first given from r revisions made) (no_part key (from + 1) given lacks))
      ∙ stays (from + 1) row revisions (rest given from r revisions made) lacks

  aimed : (from : ℕ) (row : Option RowData) (revisions : List RevisionData) → FitFrom (IsMade given) from revisions → row ≡ aim → fold (row_next resource key) row revisions ≡ aim
  aimed from row [] made is = is
  aimed from row (r ∷ revisions) made is =
      aimed (from + 1) (row_next resource key row r) revisions (rest given from r revisions made) (next_keep resource key aim given aims (from + 1) row r (first given from r revisions made) is)

  -- one of which there is one has the row that is aimed at
  pub reached : (from : ℕ) (row : Option RowData) (revisions : List RevisionData) → FitFrom (IsMade given) from revisions → IsWithin key from (from + length revisions) given → fold (row_next resource key) row revisions ≡ aim
  reached from row [] made within =
      let end : from + 0 ≡ from = omega arith in
      absurd (none_left key from given (subst (λ n. IsWithin key from n given) end within))
  reached from row (r ∷ revisions) made within = elim (cases_Bool (list_any (is_of key) (of_rev (from + 1) given))) [
    | inl some ↦ aimed (from + 1) (row_next resource key row r) revisions (rest given from r revisions made) (next_hit resource key aim given aims (from + 1) row r (first given from r revisions made) some)
    | inr lacks ↦
        let end : from + length (r ∷ revisions) ≡ (from + 1) + length revisions = omega arith in
        reached (from + 1) (row_next resource key row r) revisions (rest given from r revisions made)
        (subst (λ n. IsWithin key (from + 1) n given) end (not_yet key from (from + length (r ∷ revisions)) given within lacks))
  ]
