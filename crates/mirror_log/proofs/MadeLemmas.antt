-- The revisions that are made of slots.
use Rattle.std.proofs.Common.{◌≡◌, ℕ, zero, suc, ◌+◌, ◌-◌, ◌*◌, ◌<◌, ◌≤◌, false, ltb, eqb, List, [], ◌∷◌, ◌++◌, length, map, fold, All, Option, Some, None, refl, sym, ap, ◌∙◌, subst, inl, inr, length-append, arith}
use Rattle.std.specs.List.{AllByRecursion, list_any, slice_get}
use Rattle.std.specs.List.Sorted.{IsStrictlySortedBy}
use Rattle.std.specs.Ordering.{nat_cmp}
use Rattle.std.proofs.lemmas.Bool.{cases_Bool, cases_lt, ne_eqb}
use Rattle.std.proofs.lemmas.List.Elements.{All-from_recursion, recursion_from_All, filter-append}
use Rattle.std.proofs.lemmas.List.Sorted.{All-permutation, length_permutation}
use Rattle.std.proofs.lemmas.List.Sums.{fold-append}
use Rattle.kube_meta.specs.declared.resources.Resource.{Resource}
use Rattle.kube_meta.specs.Rows.{RowData, row_with, AreRising}
use Rattle.rev_front.specs.Passes.{FitFrom}
use Rattle.rev_log.specs.Changes.{ChangeData, RevisionData}
use Rattle.rev_log.specs.Logs.{Log, grown, end_of}
use Rattle.rev_log.specs.States.{row_next, row_at, row_in_base, IsStateAt}
use Rattle.rev_log.proofs.GrowthLemmas.{upto-end}
use Rattle.mirror_log.specs.Bridges.{younger, written_at, gone, IsKept, AreKept, MayBeOfOneLog, Bridges}
use Rattle.up_store.specs.Hearing.{AreAscending, filled}
use Rattle.up_store.proofs.HearLemmas.{filled-end}
use Rattle.mirror_log.specs.Slots.{SlotsData, of_rev, puts, IsRemoval, Remove, AreMadeOf}
use Rattle.mirror_log.proofs.BridgeLemmas.{each, both_parts, removed_missing, aim_puts, aim_removed, unchanged, put_bounds, some_within}
use Rattle.mirror_log.proofs.CountLemmas.{few, count_puts}
use Rattle.mirror_log.proofs.OutcomeLemmas.{is_of, Aims, IsMade, stays, reached}
use Rattle.mirror_log.proofs.SlotLemmas.{count_removed}
use Rattle.mirror_log.proofs.SparseLemmas.{rise, change, are_made, made_fit}
use Rattle.mirror_log.proofs.StandLemmas.{stand}

-- ---- places

pub inside_of : {X : Type 0} (xs : List X) (i : ℕ) (x : X) → slice_get xs i ≡ Some x → i < length xs
inside_of {X} [] i x at = absurd (nothing at)
  where
    nothing : ◌≡◌ {A = Option X} None (Some x) → ⊥
    nothing e = cc
inside_of (y ∷ xs) zero x at = omega arith
inside_of (y ∷ xs) (suc i) x at = omega (arith, inside_of xs i x at)

one_at : {X : Type 0} (xs : List X) (i : ℕ) → i < length xs → (x : X) × (slice_get xs i ≡ Some x)
one_at [] i inside = absurd (omega (arith, inside))
one_at (x ∷ xs) zero inside = (x, refl)
one_at (x ∷ xs) (suc i) inside = one_at xs i (omega (arith, inside))

-- ---- made of what was given

of_alone : (resource : Resource) (at : ℕ) (given : List ChangeData) → AllByRecursion (λ c. c.resource ≡ resource) given → AllByRecursion (λ c. c.resource ≡ resource) (of_rev at given)
of_alone resource at [] alone = tt
of_alone resource at (c ∷ given) alone = elim (cases_Bool (eqb c.rev at)) [
  | inl is ↦ rw is (alone.0, of_alone resource at given alone.1)
  | inr isnt ↦ rw isnt (of_alone resource at given alone.1)
]

all_alone : (resource : Resource) (given : List ChangeData) (revisions : List RevisionData) → AllByRecursion (λ c. c.resource ≡ resource) given → AllByRecursion (λ r. IsMade given r.rev r) revisions
    → AllByRecursion (λ r. All (λ c. c.resource ≡ resource) r.changes) revisions
all_alone resource given [] alone made = tt
all_alone resource given (r ∷ revisions) alone made = (
  All-permutation (λ c. c.resource ≡ resource) (of_rev r.rev given) r.changes made.0.changes (All-from_recursion (λ c. c.resource ≡ resource) (of_rev r.rev given) (of_alone resource r.rev given alone)),
  all_alone resource given revisions alone made.1,
)

few_each : (from : ℕ) (given : List ChangeData) (revisions : List RevisionData) → FitFrom (IsMade given) from revisions → (i : ℕ) → i < length revisions → length (of_rev (from + 1 + i) given) ≤ 64
few_each from given revisions fit i inside =
    let there = one_at revisions i inside in
    let made = fit i there.0 there.1 in
    omega (arith, length_permutation (of_rev (from + 1 + i) given) there.0.changes made.changes, made.is.few)

-- ---- the row at a key, at the end of the grown log

grown_row : (resource : Resource) (log : Log) (revisions : List RevisionData) (from to : ℕ) (key : List ℕ) → end_of log ≡ from → from + length revisions ≡ to → row_at (grown log revisions) resource to key ≡ fold (row_next resource key) (row_at log resource from key) revisions
grown_row resource log revisions from to key end long =
    let longer : length (log.revisions ++ revisions) ≡ length log.revisions + length revisions = length-append log.revisions revisions in
    ap (fold (row_next resource key) (row_in_base log.base resource key)) (upto-end (grown log revisions) to (omega (arith, longer, end, long)))
    ∙ fold-append (row_next resource key) (row_in_base log.base resource key) log.revisions revisions
    ∙ ap (λ (l : List RevisionData). fold (row_next resource key) (fold (row_next resource key) (row_in_base log.base resource key) l) revisions) (sym (upto-end log from (omega (arith, end))))

-- ---- the whole

none_written : (to rev : ℕ) (rows : List RowData) → AllByRecursion (λ row. row.rev ≤ to) rows → to < rev → written_at rev rows ≡ []
none_written to rev [] within above = refl
none_written to rev (x ∷ rows) within above =
    let isnt : eqb x.rev rev ≡ false = ne_eqb x.rev rev (λ e. absurd (omega (arith, e, within.0, above))) in
    rw isnt (none_written to rev rows within.1 above)

length-puts : (resource : Resource) (from : ℕ) (rows : List RowData) → length (puts resource from rows) ≡ length (younger from rows)
length-puts resource from [] = refl
length-puts resource from (x ∷ rows) = elim (cases_Bool (ltb from x.rev)) [
  | inl young ↦ rw young (ap suc (length-puts resource from rows))
  | inr old ↦ rw old (length-puts resource from rows)
]

module _ {resource : Resource} (from : ℕ) (old : List RowData) (to : ℕ) (rows : List RowData) (slots : SlotsData) (revisions : List RevisionData)
    (onward : from ≤ to) (up : AreRising rows) (kept : AreKept from old rows) (within : All (λ row. row.rev ≤ to) rows)
    (removes : Remove resource from to (puts resource from rows) (gone old rows) slots) (ordered : IsStrictlySortedBy nat_cmp (map (λ s. s.0) slots)) (made : AreMadeOf slots revisions) where
  -- all changes, and all revisions up to the last
  abbrev given : List ChangeData
  given = puts resource from rows ++ removes.removed

  abbrev all : List RevisionData
  all = filled from revisions to

  removals : AllByRecursion (IsRemoval resource from to) removes.removed
  removals = recursion_from_All (IsRemoval resource from to) removes.removed removes.removals

  bounds : AllByRecursion (λ c. (from < c.rev) × (c.rev ≤ to)) given
  bounds = both_parts (λ c. (from < c.rev) × (c.rev ≤ to)) (puts resource from rows) removes.removed
      (put_bounds resource from to rows (recursion_from_All (λ row. row.rev ≤ to) rows within))
      (each (IsRemoval resource from to) (λ c. (from < c.rev) × (c.rev ≤ to)) (λ c is. (is.above, is.within)) removes.removed removals)

  rises : AreAscending from revisions to
  rises = rise from to given slots revisions onward removes.hold bounds ordered made

  fit : FitFrom (IsMade given) from all
  fit = made_fit from to given slots revisions onward removes.hold bounds ordered made

  ends : from + length all ≡ to
  ends = filled-end from revisions to rises

  missing : AllByRecursion (λ c. row_with rows c.key ≡ None) removes.removed
  missing = removed_missing old rows removes.removed removes.keys

  aims : (key : List ℕ) → AllByRecursion (Aims resource key (row_with rows key)) given
  aims key = both_parts (Aims resource key (row_with rows key)) (puts resource from rows) removes.removed (aim_puts resource key rows from rows (stand rows up)) (aim_removed resource key rows from to removes.removed removals missing)

  bounds_all : AllByRecursion (λ c. (from < c.rev) × (c.rev ≤ from + length all)) given
  bounds_all = subst (λ (n : ℕ). AllByRecursion (λ c. (from < c.rev) × (c.rev ≤ n)) given) (sym ends) bounds

  outcome : (key : List ℕ) → fold (row_next resource key) (row_with old key) all ≡ row_with rows key
  outcome key = elim (cases_Bool (list_any (is_of key) given)) [
    | inl some ↦ reached resource key (row_with rows key) given (aims key) from (row_with old key) all fit (some_within key from (from + length all) given bounds_all some)
    | inr lacks ↦
        stays resource key (row_with rows key) given (aims key) from (row_with old key) all fit lacks
        ∙ unchanged resource from old rows removes.removed key (recursion_from_All (λ x. x.rev ≤ from → IsKept old x) rows kept) removes.keys lacks
  ]

  leads : (log : Log) → end_of log ≡ from → IsStateAt log resource from old → IsStateAt (grown log all) resource to rows
  leads log end state = record {
    rising = up;
    exact = λ key. sym (grown_row resource log all from to key end ends ∙ ap (λ (o : Option RowData). fold (row_next resource key) o all) (sym (state.exact key)) ∙ outcome key);
  }

  pub bridges : Bridges resource from old to rows revisions
  bridges = record {
    rise = rises;
    change = All-from_recursion (λ r. 0 < length r.changes) revisions (change from to given slots revisions onward removes.hold bounds ordered made);
    alone = All-from_recursion (λ r. All (λ c. c.resource ≡ resource) r.changes) revisions
        (all_alone resource given revisions (each (Aims resource [] (row_with rows [])) (λ c. c.resource ≡ resource) (λ c is. is.alone) given (aims [])) (are_made from to given slots revisions onward removes.hold bounds ordered made));
    leads = leads;
  }

  few_written : (rev : ℕ) → from < rev → length (written_at rev rows) ≤ 64
  few_written rev above = elim (cases_lt to rev) [
    | inl past ↦ omega (arith, ap length (none_written to rev rows (recursion_from_All (λ row. row.rev ≤ to) rows within) past))
    | inr upto ↦
        let number : from + 1 + (rev - from - 1) ≡ rev = omega (arith, above) in
        let here : length (of_rev rev given) ≤ 64 =
        subst (λ n. length (of_rev n given) ≤ 64) number (few_each from given all fit (rev - from - 1) (omega (arith, above, upto, ends))) in
        let split : length (of_rev rev given) ≡ length (of_rev rev (puts resource from rows)) + length (of_rev rev removes.removed) =
        ap length (filter-append (λ c. eqb c.rev rev) (puts resource from rows) removes.removed) ∙ length-append (of_rev rev (puts resource from rows)) (of_rev rev removes.removed) in
        omega (arith, here, split, count_puts resource from rev rows above)
  ]

  has_room : length (younger from rows) + length (gone old rows) ≤ 64 * (to - from)
  has_room =
      let count : length given ≡ length (puts resource from rows) + length removes.removed = length-append (puts resource from rows) removes.removed in
      let most : length given ≤ 64 * length all =
      few from (length all) given (few_each from given all fit)
      (each (λ c. (from < c.rev) × (c.rev ≤ from + length all)) (λ c. from < c.rev) (λ c b. b.0) given bounds_all)
      (each (λ c. (from < c.rev) × (c.rev ≤ from + length all)) (λ c. c.rev ≤ from + length all) (λ c b. b.1) given bounds_all) in
      let size : length all ≡ to - from = omega (arith, ends) in
      omega (arith, count, most, size, length-puts resource from rows, count_removed removes.removed (gone old rows) removes.keys)

  pub one_log : MayBeOfOneLog from old to rows
  one_log = record { kept = kept; few = few_written; room = has_room }
