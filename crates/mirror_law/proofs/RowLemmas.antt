-- Rows of logs: that they are old, and that logs go on.
use Rattle.std.proofs.Common.{◌≡◌, ℕ, ◌+◌, ◌-◌, ◌≤◌, Bool, true, false, List, [], ◌∷◌, ◌++◌, length, map, fold, take, Option, Some, None, IfSome, All, bytes_eq, Less, refl, sym, ap, subst, inl, inr, arith}
use Rattle.std.specs.Prelude.{option_map}
use Rattle.std.specs.List.{AllByRecursion}
use Rattle.std.specs.List.Sorted.{IsStrictlySortedBy}
use Rattle.std.specs.Cmp.Lexicographic.{slice_cmp}
use Rattle.std.specs.Ordering.{nat_cmp}
use Rattle.std.proofs.Math.Seq.{take-nil}
use Rattle.std.proofs.lemmas.Bool.{cases_Bool, false_from_ne_true}
use Rattle.std.proofs.lemmas.List.{length-append, length-take, length-drop}
use Rattle.std.proofs.lemmas.List.Elements.{All-from_recursion, recursion_from_All, All-push}
use Rattle.std.proofs.lemmas.Slice.Eq.{bytes_eq-Decides}
use Rattle.kube_meta.specs.declared.objects.Obj.{Obj}
use Rattle.kube_meta.specs.declared.resources.Resource.{Resource}
use Rattle.kube_meta.specs.declared.resources.Resource.TheVariants.{Pods}
use Rattle.kube_meta.specs.Rows.{RowData, key_of, row_with, AreRising}
use Rattle.rev_log.specs.Changes.{ChangeData, RevisionData, IsRevision}
use Rattle.rev_log.specs.Logs.{Log, IsLog, AreNumbered, between}
use Rattle.rev_log.specs.States.{is_change_of, row_after, row_next, row_in_base, row_at}
use Rattle.rev_log.proofs.GrowthLemmas.{AreNumbered-push, row_at-between}
use Rattle.select_all.proofs.EventLaws.{numbered-between}
use Rattle.select_all.proofs.ListingLaws.{before_self}
use Rattle.mirror_law.specs.Laws.{BasesAreStates, LogsGoOn, RowsAreOld}

pub bases_are_states : BasesAreStates
bases_are_states b at rows rising = record { rising = rising; exact = λ key. sym (none (at - b) key) }
  where
    none : (n : ℕ) (key : List ℕ) → fold (row_next Pods key) (row_with rows key) (take n []) ≡ row_with rows key
    none n key = ap (fold (row_next Pods key) (row_with rows key)) (take-nil n)

pub logs_go_on : LogsGoOn
logs_go_on log revision is one number ends =
    let longer : length (log.revisions ++ revision ∷ []) ≡ length log.revisions + 1 = length-append log.revisions (revision ∷ []) in
    record {
      base_rising = is.base_rising;
      base_old = is.base_old;
      numbered = AreNumbered-push log.first log.revisions revision is.numbered number;
      revisions = All-push IsRevision log.revisions revision is.revisions one;
      ends = omega (arith, longer, ends);
    }

-- ---- rows are old

-- a row, if there is one, is at most of a revision
abbrev pub IsOld : ℕ → Option RowData → Type 0
IsOld at row = IfSome row (λ r. r.rev ≤ at)

older : (at later : ℕ) (row : Option RowData) → at ≤ later → IsOld at row → IsOld later row
older at later None le old = tt
older at later (Some row) le old = omega (arith, le, old)

written : (rev at : ℕ) (new : Option Obj) → rev ≤ at → IsOld at (option_map (λ obj. record { obj = obj; rev = rev }) new)
written rev at None le = tt
written rev at (Some obj) le = le

changed_old : (resource : Resource) (key : List ℕ) (rev at : ℕ) (row : Option RowData) (changes : List ChangeData) → rev ≤ at → IsOld at row → IsOld at (fold (row_after resource key rev) row changes)
changed_old resource key rev at row [] le old = old
changed_old resource key rev at row (c ∷ changes) le old = changed_old resource key rev at (row_after resource key rev row c) changes le (one (is_change_of resource key c) refl)
  where
    one : (here : Bool) → is_change_of resource key c ≡ here → IsOld at (row_after resource key rev row c)
    one true is = rw is (written rev at c.new le)
    one false isnt = rw isnt old

grown_old : (resource : Resource) (key : List ℕ) (m : ℕ) (row : Option RowData) (xs : List RevisionData) → AreNumbered m xs → IsOld m row → IsOld (m + length xs) (fold (row_next resource key) row xs)
grown_old resource key m row [] numbered old = older m (m + 0) row (omega arith) old
grown_old resource key m row (x ∷ xs) numbered old =
    older (m + 1 + length xs) (m + length (x ∷ xs)) (fold (row_next resource key) (row_next resource key row x) xs) (omega arith)
    (grown_old resource key (m + 1) (row_next resource key row x) xs numbered.1
    (changed_old resource key x.rev (m + 1) row x.changes (omega (arith, numbered.0)) (older m (m + 1) row (omega arith) old)))

found_old : (at : ℕ) (rows : List RowData) (key : List ℕ) → AllByRecursion (λ row. row.rev ≤ at) rows → IsOld at (row_with rows key)
found_old at [] key old = tt
found_old at (row ∷ rows) key old = elim (cases_Bool (bytes_eq key (key_of row))) [
  | inl here ↦ rw here (old.0)
  | inr past ↦ rw past (found_old at rows key old.1)
]

base_old : (log : Log) (resource : Resource) (key : List ℕ) → IsLog log → IsOld log.first (row_in_base log.base resource key)
base_old log Pods key is = found_old log.first log.base key (recursion_from_All (λ row. row.rev ≤ log.first) log.base is.base_old)
base_old log resource key is = tt

pub row_old : (log : Log) (resource : Resource) (at : ℕ) (key : List ℕ) → IsLog log → log.first ≤ at → IsOld at (row_at log resource at key)
row_old log resource at key is from =
    let xs : List RevisionData = between log log.first at in
    let short : length xs ≡ length (take (at - log.first) log.revisions) - (log.first - log.first) = length-drop (log.first - log.first) (take (at - log.first) log.revisions) in
    let shorter = length-take (at - log.first) log.revisions in
    let none : log.first - log.first ≡ 0 = omega arith in
    let first_is : row_at log resource log.first key ≡ row_in_base log.base resource key = ap (λ n. fold (row_next resource key) (row_in_base log.base resource key) (take n log.revisions)) none in
    let start : IsOld (log.first + (log.first - log.first)) (row_at log resource log.first key) =
    older log.first (log.first + (log.first - log.first)) (row_at log resource log.first key) (omega arith) (subst (IsOld log.first) (sym first_is) (base_old log resource key is)) in
    subst (IsOld at) (sym (row_at-between log resource key log.first at from))
    (older (log.first + (log.first - log.first) + length xs) at (fold (row_next resource key) (row_at log resource log.first key) xs) (omega (arith, short, shorter, none, from))
    (grown_old resource key (log.first + (log.first - log.first)) (row_at log resource log.first key) xs (numbered-between log log.first at is.numbered) start))

-- ---- rows that rise stand at their keys

apart : (x y : RowData) → slice_cmp nat_cmp (key_of x) (key_of y) ≡ Less → bytes_eq (key_of y) (key_of x) ≡ false
apart x y less = false_from_ne_true (bytes_eq (key_of y) (key_of x)) (λ same. before_self (key_of x) (key_of y) less (sym ((bytes_eq-Decides (key_of y) (key_of x)).0 same)))

behind : (x : RowData) (rows others : List RowData) → AllByRecursion (λ k. slice_cmp nat_cmp (key_of x) k ≡ Less) (map key_of others)
    → AllByRecursion (λ row. row_with rows (key_of row) ≡ Some row) others → AllByRecursion (λ row. row_with (x ∷ rows) (key_of row) ≡ Some row) others
behind x rows [] above at = tt
behind x rows (y ∷ others) above at = (rw (apart x y above.0) (at.0), behind x rows others above.1 at.1)

stand : (rows : List RowData) → AreRising rows → AllByRecursion (λ row. row_with rows (key_of row) ≡ Some row) rows
unfolding IsStrictlySortedBy
stand [] rising = tt
stand (x ∷ rows) rising = (
  rw ((bytes_eq-Decides (key_of x) (key_of x)).1 refl) refl,
  behind x rows rows rising.0 (stand rows rising.1),
)

-- what holds of the row at each key holds of each of these
pub of_each : (P : RowData → Type 0) (rows : List RowData) → AreRising rows → ((key : List ℕ) → IfSome (row_with rows key) P) → All P rows
of_each P rows rising at = All-from_recursion P rows (all rows (stand rows rising))
  where
    all : (others : List RowData) → AllByRecursion (λ row. row_with rows (key_of row) ≡ Some row) others → AllByRecursion P others
    all [] found = tt
    all (x ∷ others) found = (subst (λ o. IfSome o P) found.0 (at (key_of x)), all others found.1)

pub rows_are_old : RowsAreOld
rows_are_old log resource at rows is from state =
    of_each (λ row. row.rev ≤ at) rows state.rising
    (λ key. subst (IsOld at) (sym (state.exact key)) (row_old log resource at key is from))
