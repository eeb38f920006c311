-- What a mirror takes has no fault but a gap.
use Rattle.std.proofs.Common.{◌≡◌, ℕ, ◌+◌, ◌≤◌, Bool, true, false, not, eqb, ltb, leb, List, [], ◌∷◌, length, Option, Some, None, is_some, Less, Equal, refl, sym, ap, ◌∙◌, arith}
use Rattle.std.specs.Prelude.{◌&&◌, ◌||◌, if◌then◌else◌}
use Rattle.std.specs.List.{AllByRecursion}
use Rattle.std.specs.Cmp.Lexicographic.{slice_cmp}
use Rattle.std.specs.Ordering.{nat_cmp, ordering_then}
use Rattle.std.proofs.lemmas.Bool.{and_parts, eqb-true, lt-leb, le-ltb, false_from_ne_true, or_from}
use Rattle.std.proofs.lemmas.List.{length-append}
use Rattle.std.proofs.lemmas.List.Elements.{recursion_from_All}
use Rattle.std.proofs.lemmas.Slice.Eq.{bytes_eq-Decides}
use Rattle.kube_meta.specs.Rows.{RowData}
use Rattle.rev_log.specs.Logs.{Log, end_of}
use Rattle.select_all.specs.declared.selection.Kind.{Kind}
use Rattle.select_all.specs.declared.selection.Kind.TheVariants.{Added, Modified, Deleted}
use Rattle.select_all.specs.Selecting.{selects}
use Rattle.select_all.specs.Streams.{TransitionData, transition_cmp}
use Rattle.select_all.proofs.ListingLaws.{before_self}
use Rattle.select_all.proofs.OrderLaws.{same_number}
use Rattle.mirror_law.specs.Mirrors.{of_revision}
use Rattle.mirror_law.specs.Taking.{FitsKind, row_before, IsTakenMark}
use Rattle.mirror_log.specs.Intakes.{fits_kind, is_of}
use Rattle.mirror_log.specs.Faults.{last_of, is_full_at, is_repeated}
use Rattle.mirror_log.specs.Laws.{IsAtMostGap, TakenEventsFit, TakenMarksFit}
use Rattle.mirror_log.specs.declared.take_refusal.TakeNo.TheVariants.{BadLine, Order, Gap}

fits : (kind : Kind) (row : Option RowData) → FitsKind kind row → fits_kind kind (is_some row) ≡ true
fits Added row none = ap (λ (r : Option RowData). not (is_some r)) none
fits Modified row some = some
fits Deleted row some = some

-- a line below another one isn't of the same object and revision
unlike : (k t : TransitionData) → transition_cmp k t ≡ Less → (eqb k.rev t.rev && is_of t.obj.key k) ≡ false
unlike k t less = false_from_ne_true (eqb k.rev t.rev && is_of t.obj.key k) one_object
  where
    one_object : (eqb k.rev t.rev && is_of t.obj.key k) ≡ true → ⊥
    one_object same =
        let both = and_parts (eqb k.rev t.rev) (is_of t.obj.key k) same in
        let numbers : nat_cmp k.rev t.rev ≡ Equal = ap (λ n. nat_cmp n t.rev) (eqb-true k.rev t.rev both.0) ∙ same_number t.rev in
        let keys : slice_cmp nat_cmp k.obj.key t.obj.key ≡ Less = sym (ap (λ o. ordering_then o (slice_cmp nat_cmp k.obj.key t.obj.key)) numbers) ∙ less in
        before_self k.obj.key t.obj.key keys ((bytes_eq-Decides k.obj.key t.obj.key).0 both.1)

not_repeated : (t : TransitionData) (kept : List TransitionData) → AllByRecursion (λ k. transition_cmp k t ≡ Less) kept → is_repeated kept t.rev t.obj.key ≡ false
not_repeated t [] behind = refl
not_repeated t (k ∷ kept) behind = or_from (eqb k.rev t.rev && is_of t.obj.key k) (is_repeated kept t.rev t.obj.key) (unlike k t behind.0) (not_repeated t kept behind.1)

gap_at_most : (far : Bool) (last got : ℕ) → IsAtMostGap (if far then Some (Gap last got) else None)
gap_at_most true last got = tt
gap_at_most false last got = tt

event_at_most : (selected fitting full late repeated far : Bool) (last got : ℕ) → selected ≡ true → fitting ≡ true → full ≡ false → late ≡ false → repeated ≡ false
    → IsAtMostGap (if not selected then Some BadLine else if not fitting then Some BadLine else if full then Some BadLine else if late || repeated then Some (Order last got) else if far then Some (Gap last got) else None)
event_at_most selected fitting full late repeated far last got a b c d e = rw (a, b, c, d, e) (gap_at_most far last got)

pub taken_events_fit : TakenEventsFit
taken_events_fit s most_gap m kept t taken =
    let row : Option RowData = row_before m s.resource kept t.rev t.obj.key in
    let fitting : fits_kind t.kind (is_some row) ≡ true = fits t.kind row taken.fits in
    event_at_most (selects s t.obj) (fits_kind t.kind (is_some row)) (is_full_at kept t.rev) (leb t.rev (end_of m)) (is_repeated kept t.rev t.obj.key)
    (ltb (last_of (end_of m) kept + most_gap) t.rev) (last_of (end_of m) kept) t.rev
    taken.selected fitting (lt-leb 64 (length (of_revision t.rev kept)) (omega (arith, taken.few, length-append (of_revision t.rev kept) (t ∷ []))))
    (lt-leb t.rev (end_of m) taken.above) (not_repeated t kept (recursion_from_All (λ k. transition_cmp k t ≡ Less) kept taken.behind))

last_told : (m : Log) (kept : List TransitionData) (at : ℕ) → IsTakenMark m kept at → last_of (end_of m) kept ≤ at
last_told m [] at taken = taken.onward
last_told m (k ∷ kept) at taken = (recursion_from_All (λ u. u.rev ≤ at) (k ∷ kept) taken.told).0

mark_at_most : (below far : Bool) (last got : ℕ) → below ≡ false → IsAtMostGap (if below then Some BadLine else if far then Some (Gap last got) else None)
mark_at_most below far last got b = rw b (gap_at_most far last got)

pub taken_marks_fit : TakenMarksFit
taken_marks_fit most_gap m kept at taken =
    mark_at_most (ltb at (last_of (end_of m) kept)) (ltb (last_of (end_of m) kept + most_gap) at) (last_of (end_of m) kept) at
    (le-ltb at (last_of (end_of m) kept) (last_told m kept at taken))
