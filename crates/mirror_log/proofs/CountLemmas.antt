-- How many changes there are of revisions.
use Rattle.std.proofs.Common.{◌≡◌, ℕ, zero, suc, ◌+◌, ◌*◌, ◌<◌, ◌≤◌, Bool, true, false, leb, ltb, eqb, List, [], ◌∷◌, length, take, get_or, filter, refl, sym, ap, ◌∙◌, subst, inl, inr, arith}
use Rattle.std.specs.List.{AllByRecursion}
use Rattle.std.proofs.lemmas.Bool.{cases_Bool, cases_lt, cases_eq, le-leb, lt-leb, lt-ltb, eq-eqb, ne_eqb}
use Rattle.kube_meta.specs.Rows.{RowData}
use Rattle.kube_meta.specs.declared.resources.Resource.{Resource}
use Rattle.rev_log.specs.Changes.{ChangeData}
use Rattle.mirror_log.specs.Bridges.{written_at}
use Rattle.mirror_log.specs.Slots.{of_rev, puts}

-- those up to a revision
abbrev upto : ℕ → List ChangeData → List ChangeData
upto n changes = filter (λ c. leb c.rev n) changes

-- up to the next revision there are those of it more
one_more : (n : ℕ) (changes : List ChangeData) → length (upto (n + 1) changes) ≡ length (upto n changes) + length (of_rev (n + 1) changes)
one_more n [] = refl
one_more n (c ∷ changes) = elim (cases_lt n c.rev) [
  | inl above ↦ elim (cases_eq c.rev (n + 1)) [
    | inl at ↦
        let past : leb c.rev n ≡ false = lt-leb c.rev n above in
        let reached : leb c.rev (n + 1) ≡ true = le-leb c.rev (n + 1) (omega (arith, at)) in
        let is : eqb c.rev (n + 1) ≡ true = eq-eqb c.rev (n + 1) at in
        rw (past, reached, is) (omega (arith, one_more n changes))
    | inr beyond ↦
        let past : leb c.rev n ≡ false = lt-leb c.rev n above in
        let passed : leb c.rev (n + 1) ≡ false = lt-leb c.rev (n + 1) (omega (arith, above, beyond)) in
        let isnt : eqb c.rev (n + 1) ≡ false = ne_eqb c.rev (n + 1) beyond in
        rw (past, passed, isnt) (one_more n changes)
  ]
  | inr within ↦
      let old : leb c.rev n ≡ true = le-leb c.rev n within in
      let reached : leb c.rev (n + 1) ≡ true = le-leb c.rev (n + 1) (omega (arith, within)) in
      let isnt : eqb c.rev (n + 1) ≡ false = ne_eqb c.rev (n + 1) (λ e. absurd (omega (arith, within, e))) in
      rw (old, reached, isnt) (omega (arith, one_more n changes))
]

next : (from n : ℕ) → from + suc n ≡ (from + n) + 1
next from n = omega arith

at_least : (from n : ℕ) (changes : List ChangeData) → ((i : ℕ) → i < n → 64 ≤ length (of_rev (from + 1 + i) changes)) → 64 * n ≤ length (upto (from + n) changes)
at_least from zero changes full = omega arith
at_least from (suc n) changes full =
    let rest : 64 * n ≤ length (upto (from + n) changes) = at_least from n changes (λ i within. full i (omega (arith, within))) in
    let last : 64 ≤ length (of_rev ((from + n) + 1) changes) = subst (λ k. 64 ≤ length (of_rev k changes)) (omega arith) (full n (omega arith)) in
    let split : length (upto (from + suc n) changes) ≡ length (upto (from + n) changes) + length (of_rev ((from + n) + 1) changes) =
    ap (λ k. length (upto k changes)) (next from n) ∙ one_more (from + n) changes in
    omega (arith, rest, last, split)

at_most : (from n : ℕ) (changes : List ChangeData) → ((i : ℕ) → i < n → length (of_rev (from + 1 + i) changes) ≤ 64) → length (upto (from + n) changes) ≤ length (upto from changes) + 64 * n
at_most from zero changes few = let none : from + 0 ≡ from = omega arith in rw none (omega arith)
at_most from (suc n) changes few =
    let rest : length (upto (from + n) changes) ≤ length (upto from changes) + 64 * n = at_most from n changes (λ i within. few i (omega (arith, within))) in
    let last : length (of_rev ((from + n) + 1) changes) ≤ 64 = subst (λ k. length (of_rev k changes) ≤ 64) (omega arith) (few n (omega arith)) in
    let split : length (upto (from + suc n) changes) ≡ length (upto (from + n) changes) + length (of_rev ((from + n) + 1) changes) =
    ap (λ k. length (upto k changes)) (next from n) ∙ one_more (from + n) changes in
    omega (arith, rest, last, split)

some_of_all : (p : ChangeData → Bool) (changes : List ChangeData) → length (filter p changes) ≤ length changes
some_of_all p [] = omega arith
some_of_all p (c ∷ changes) = elim (cases_Bool (p c)) [
  | inl pass ↦ rw pass (omega (arith, some_of_all p changes))
  | inr fail ↦ rw fail (omega (arith, some_of_all p changes))
]

-- where each of some revisions has 64 changes, there are so many at least
pub many : (from n : ℕ) (changes : List ChangeData) → ((i : ℕ) → i < n → 64 ≤ length (of_rev (from + 1 + i) changes)) → 64 * n ≤ length changes
many from n changes full = omega (arith, at_least from n changes full, some_of_all (λ c. leb c.rev (from + n)) changes)

none_upto : (from : ℕ) (changes : List ChangeData) → AllByRecursion (λ c. from < c.rev) changes → upto from changes ≡ []
none_upto from [] above = refl
none_upto from (c ∷ changes) above = let past : leb c.rev from ≡ false = lt-leb c.rev from above.0 in rw past (none_upto from changes above.1)

all_upto : (to : ℕ) (changes : List ChangeData) → AllByRecursion (λ c. c.rev ≤ to) changes → upto to changes ≡ changes
all_upto to [] within = refl
all_upto to (c ∷ changes) within = let is : leb c.rev to ≡ true = le-leb c.rev to within.0 in rw is (ap (λ rest. c ∷ rest) (all_upto to changes within.1))

-- where each of some revisions has at most 64 changes, and all changes are of these, there are no more
pub few : (from n : ℕ) (changes : List ChangeData) → ((i : ℕ) → i < n → length (of_rev (from + 1 + i) changes) ≤ 64)
    → AllByRecursion (λ c. from < c.rev) changes → AllByRecursion (λ c. c.rev ≤ from + n) changes → length changes ≤ 64 * n
few from n changes each above within =
    let all : length (upto (from + n) changes) ≡ length changes = ap length (all_upto (from + n) changes within) in
    let none : length (upto from changes) ≡ 0 = ap length (none_upto from changes above) in
    omega (arith, at_most from n changes each, all, none)

-- ---- rows

-- of a revision as many rows are put as were written at it
pub count_puts : (resource : Resource) (from rev : ℕ) (rows : List RowData) → from < rev → length (of_rev rev (puts resource from rows)) ≡ length (written_at rev rows)
count_puts resource from rev [] above = refl
count_puts resource from rev (row ∷ rows) above = elim (cases_eq row.rev rev) [
  | inl at ↦
      let is : eqb row.rev rev ≡ true = eq-eqb row.rev rev at in
      let young : ltb from row.rev ≡ true = lt-ltb from row.rev (omega (arith, above, at)) in
      rw (young, is) (ap suc (count_puts resource from rev rows above))
  | inr other ↦
      let isnt : eqb row.rev rev ≡ false = ne_eqb row.rev rev other in
      elim (cases_Bool (ltb from row.rev)) [
        | inl young ↦ rw (young, isnt) (count_puts resource from rev rows above)
        | inr old ↦ rw (old, isnt) (count_puts resource from rev rows above)
      ]
]

-- one that passes a test is one more than those before it
pub one_of : (p : RowData → Bool) (rows : List RowData) (k : ℕ) (row : RowData) → k < length rows → row ≡ get_or rows k row → p row ≡ true → length (filter p (take k rows)) < length (filter p rows)
one_of p [] k row inside is pass = absurd (omega arith)
one_of p (x ∷ rows) zero row inside is pass = let here : p x ≡ true = ap p (sym is) ∙ pass in rw here (omega arith)
one_of p (x ∷ rows) (suc k) row inside is pass = elim (cases_Bool (p x)) [
  | inl first ↦ rw first (omega (arith, one_of p rows k row (omega arith) is pass))
  | inr first ↦ rw first (one_of p rows k row (omega arith) is pass)
]
