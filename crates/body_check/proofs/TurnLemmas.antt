-- What may come next by what a walk keeps is what a log may tell next.
use Rattle.std.proofs.Common.{◌≡◌, ℕ, ◌+◌, ◌-◌, ◌^◌, ◌<◌, ◌≤◌, Bool, true, false, ltb, List, [], ◌∷◌, ◌++◌, length, fold, filter, Option, Some, None, All, Less, Equal, bytes_eq, refl, sym, ap, ◌∙◌, subst, inl, inr, arith}
use Rattle.std.specs.List.{AllByRecursion}
use Rattle.std.specs.List.Sorted.{IsStrictlySortedBy}
use Rattle.std.specs.BTreeMap.{get}
use Rattle.std.specs.Cmp.Lexicographic.{slice_cmp}
use Rattle.std.specs.Ordering.{nat_cmp, ordering_then}
use Rattle.std.proofs.lemmas.Bool.{cases_lt, lt-ltb, le-ltb, false_from_ne_true}
use Rattle.std.proofs.lemmas.Cmp.{nat_list_cmp_total}
use Rattle.std.proofs.lemmas.List.{length-append}
use Rattle.std.proofs.lemmas.List.Elements.{recursion_from_All, All-from_recursion}
use Rattle.std.proofs.lemmas.Slice.Eq.{bytes_eq-Decides}
use Rattle.kube_meta.specs.Rows.{RowData}
use Rattle.rev_log.specs.Logs.{Log, end_of}
use Rattle.rev_log.specs.States.{row_at}
use Rattle.select_all.specs.Selecting.{selects}
use Rattle.select_all.specs.Listings.{row_told}
use Rattle.select_all.specs.Streams.{TransitionData, transition_cmp}
use Rattle.select_all.proofs.EventLaws.{all_append, all_weaker}
use Rattle.select_all.proofs.ListingLaws.{before_self}
use Rattle.select_all.proofs.OrderLaws.{same_number}
use Rattle.watch_rules.specs.Bodies.{Told}
use Rattle.mirror_law.specs.Mirrors.{of_revision}
use Rattle.mirror_law.specs.Following.{kept_after}
use Rattle.mirror_law.specs.Taking.{row_before}
use Rattle.mirror_law.proofs.LineLemmas.{last_part}
use Rattle.mirror_law.proofs.ListLemmas.{none_kept, all_kept}
use Rattle.body_check.specs.declared.walk.Last.{Last}
use Rattle.body_check.specs.declared.walk.Walk.{Walk}
use Rattle.body_check.specs.Turns.{FitsRow, HasRoomFor, MayCome}
use Rattle.watch_record.specs.Between.{BetweenData}
use Rattle.body_check.specs.Heard.{IsLastEvent, IsLastOf, IsWalkOf}
use Rattle.body_check.specs.Walks.{FitAtOnce, IsTakenNext, reach_of}
use Rattle.body_check.proofs.SettleLemmas.{numbers_of, all_of, none_of}

-- ---- the order of events

numbers_alike : (k t : TransitionData) → k.rev ≡ t.rev → nat_cmp k.rev t.rev ≡ Equal
numbers_alike k t same = ap (λ (n : ℕ). nat_cmp n t.rev) same ∙ same_number t.rev

pub keys_less : (k t : TransitionData) → k.rev ≡ t.rev → transition_cmp k t ≡ Less → slice_cmp nat_cmp k.obj.key t.obj.key ≡ Less
keys_less k t same less = sym (ap (λ o. ordering_then o (slice_cmp nat_cmp k.obj.key t.obj.key)) (numbers_alike k t same)) ∙ less

less_by_key : (k t : TransitionData) → k.rev ≡ t.rev → slice_cmp nat_cmp k.obj.key t.obj.key ≡ Less → transition_cmp k t ≡ Less
less_by_key k t same less = ap (λ o. ordering_then o (slice_cmp nat_cmp k.obj.key t.obj.key)) (numbers_alike k t same) ∙ less

less_by_number : (k t : TransitionData) → k.rev < t.rev → transition_cmp k t ≡ Less
less_by_number k t less =
    let numbers : nat_cmp k.rev t.rev ≡ Less = rw (lt-ltb k.rev t.rev less) refl in
    ap (λ o. ordering_then o (slice_cmp nat_cmp k.obj.key t.obj.key)) numbers

before_last : (xs : List TransitionData) (e : TransitionData) → IsStrictlySortedBy transition_cmp (xs ++ e ∷ []) → AllByRecursion (λ k. transition_cmp k e ≡ Less) xs
unfolding IsStrictlySortedBy
before_last [] e sorted = tt
before_last (x ∷ xs) e sorted = ((last_part (λ k. transition_cmp x k ≡ Less) xs (e ∷ []) sorted.0).0, before_last xs e sorted.1)

untold : (key : List ℕ) (ts : List TransitionData) (row : Option RowData) → AllByRecursion (λ k. bytes_eq k.obj.key key ≡ false) ts → fold (row_told key) row ts ≡ row
untold key [] row none = refl
untold key (t ∷ ts) row none = ap (λ (r : Option RowData). fold (row_told key) r ts) (rw (none.0) refl) ∙ untold key ts row none.1

both : (P Q : TransitionData → Type 0) (xs : List TransitionData) → AllByRecursion P xs → AllByRecursion Q xs → AllByRecursion (λ x. P x × Q x) xs
both P Q [] p q = tt
both P Q (x ∷ xs) p q = ((p.0, q.0), both P Q xs p.1 q.1)

pub not_empty : (xs : List TransitionData) (x : TransitionData) → [] ≡ xs ++ x ∷ [] → ⊥
not_empty [] x same = cc
not_empty (y ∷ xs) x same = cc

-- ---- what is kept is of the next revision

pub reach_upto : (m : Log) (kept : List TransitionData) → reach_of m kept ≤ end_of m + 1
reach_upto m [] = omega arith
reach_upto m (t ∷ kept) = omega arith

pub reach_from : (m : Log) (kept : List TransitionData) → end_of m ≤ reach_of m kept
reach_from m [] = omega arith
reach_from m (t ∷ kept) = omega arith

pub reach_with : (m : Log) (xs : List TransitionData) (t : TransitionData) → reach_of m (xs ++ t ∷ []) ≡ end_of m + 1
reach_with m [] t = refl
reach_with m (x ∷ xs) t = refl

after_end : (m : Log) (kept : List TransitionData) (last : Option Last) (rev : ℕ) (key : List ℕ) → IsLastOf kept last → reach_of m kept ≤ rev → (rev ≡ reach_of m kept → HasRoomFor last key) → end_of m < rev
after_end m [] None rev key is onward room = elim (cases_lt (end_of m) rev) [ inl later ↦ later | inr here ↦ absurd (room (omega (arith, here, onward))) ]
after_end m [] (Some last) rev key is onward room = absurd (not_empty is.before is.event is.kept_are)
after_end m (t ∷ kept) last rev key is onward room = omega (arith, onward)

module _ (case : BetweenData) (texts : List (List ℕ)) (walk : Walk) (m : Log) (is : IsWalkOf case texts walk m) (t : TransitionData) where
  numbers : AllByRecursion (λ k. k.rev ≡ end_of m + 1) is.kept
  numbers = numbers_of (selects case.ask.selection) (row_at m case.ask.selection.resource (end_of m)) (end_of m + 1) is.kept is.walked.are

  -- where it stands behind all that is kept, the row before it is the one that stands
  row_is : end_of m < t.rev → AllByRecursion (λ k. transition_cmp k t ≡ Less) is.kept
      → row_before m case.ask.selection.resource is.kept t.rev t.obj.key ≡ get (slice_cmp nat_cmp) walk.rows t.obj.key
  row_is above behind =
      let row : Option RowData = row_at m case.ask.selection.resource (end_of m) t.obj.key in
      let old : TransitionData → Bool = λ k. ltb k.rev t.rev in
      elim (cases_lt (end_of m + 1) t.rev) [
        | inl later ↦
            let all : filter old is.kept ≡ is.kept = all_kept old is.kept (all_weaker (λ u. u.rev ≡ end_of m + 1) (λ u. old u ≡ true) (λ u number. lt-ltb u.rev t.rev (omega (arith, number, later))) is.kept numbers) in
            ap (λ (l : List TransitionData). fold (row_told t.obj.key) row l) all ∙ sym (is.rows.reads t.obj.key)
        | inr next ↦
            let none : filter old is.kept ≡ [] = none_kept old is.kept (all_weaker (λ u. u.rev ≡ end_of m + 1) (λ u. old u ≡ false) (λ u number. le-ltb u.rev t.rev (omega (arith, number, next))) is.kept numbers) in
            let others : AllByRecursion (λ k. bytes_eq k.obj.key t.obj.key ≡ false) is.kept =
            all_weaker (λ k. (k.rev ≡ end_of m + 1) × (transition_cmp k t ≡ Less)) (λ k. bytes_eq k.obj.key t.obj.key ≡ false)
            (λ k b. false_from_ne_true (bytes_eq k.obj.key t.obj.key) (λ same.
            before_self k.obj.key t.obj.key (keys_less k t (omega (arith, b.0, next, above)) b.1) ((bytes_eq-Decides k.obj.key t.obj.key).0 same)))
            is.kept (both (λ k. k.rev ≡ end_of m + 1) (λ k. transition_cmp k t ≡ Less) is.kept numbers behind) in
            ap (λ (l : List TransitionData). fold (row_told t.obj.key) row l) none ∙ sym (untold t.obj.key is.kept row others) ∙ sym (is.rows.reads t.obj.key)
      ]

  -- what a log may tell next may come
  room : (kept : List TransitionData) (last : Option Last) → IsLastOf kept last → AllByRecursion (λ k. k.rev ≡ end_of m + 1) kept → end_of m < t.rev → AllByRecursion (λ k. transition_cmp k t ≡ Less) kept
      → length (kept_after kept (Told t)) ≤ 64 → t.rev ≡ reach_of m kept → HasRoomFor last t.obj.key
  room [] None last number above behind few here = absurd (omega (arith, above, here))
  room (k ∷ kept) None last number above behind few here = absurd (let bad : k ∷ kept ≡ [] = last in cc)
  room [] (Some l) last number above behind few here = absurd (not_empty last.before last.event last.kept_are)
  room (k ∷ kept) (Some l) last number above behind few here =
      let e : TransitionData = last.event in
      let at = last_part (λ u. (u.rev ≡ end_of m + 1) × (transition_cmp u t ≡ Less)) last.before (e ∷ [])
      (subst (AllByRecursion (λ u. (u.rev ≡ end_of m + 1) × (transition_cmp u t ≡ Less))) last.kept_are
      (both (λ u. u.rev ≡ end_of m + 1) (λ u. transition_cmp u t ≡ Less) (k ∷ kept) number behind)) in
      let less : slice_cmp nat_cmp e.obj.key t.obj.key ≡ Less = keys_less e t (omega (arith, at.0.0, here)) at.0.1 in
      let all : of_revision t.rev (k ∷ kept) ≡ k ∷ kept = all_of (end_of m + 1) t.rev (k ∷ kept) number (omega (arith, here)) in (
        subst (λ (x : List ℕ). slice_cmp nat_cmp x t.obj.key ≡ Less) (sym last.key) less,
        omega (arith, last.count, ap length all, length-append (of_revision t.rev (k ∷ kept)) (t ∷ []), few),
      )

  pub may_come : IsTakenNext case.ask.selection m is.kept t → MayCome case.ask.selection walk t.kind t.obj t.rev
  may_come next =
      let behind : AllByRecursion (λ k. transition_cmp k t ≡ Less) is.kept = recursion_from_All (λ k. transition_cmp k t ≡ Less) is.kept next.behind in
      record {
        selected = next.selected;
        fits = subst (FitsRow t.kind t.obj) (row_is next.above behind) next.fits;
        onward = omega (arith, is.reach, reach_upto m is.kept, next.above);
        room = λ here. room is.kept walk.last is.last numbers next.above behind next.few (here ∙ is.reach);
      }

  -- and what may come a log may tell next
  behind_last : (kept : List TransitionData) (last : Option Last) → IsLastOf kept last → IsStrictlySortedBy transition_cmp kept → AllByRecursion (λ k. k.rev ≡ end_of m + 1) kept
      → t.rev ≡ end_of m + 1 → (t.rev ≡ reach_of m kept → HasRoomFor last t.obj.key) → AllByRecursion (λ k. transition_cmp k t ≡ Less) kept
  behind_last [] last is_last sorted number here may = tt
  behind_last (k ∷ kept) None is_last sorted number here may = absurd (let bad : k ∷ kept ≡ [] = is_last in cc)
  behind_last (k ∷ kept) (Some l) is_last sorted number here may =
      let e : TransitionData = is_last.event in
      let has = may here in
      let less : slice_cmp nat_cmp e.obj.key t.obj.key ≡ Less = subst (λ (x : List ℕ). slice_cmp nat_cmp x t.obj.key ≡ Less) is_last.key has.0 in
      let numbered : AllByRecursion (λ u. u.rev ≡ end_of m + 1) (is_last.before ++ e ∷ []) = subst (AllByRecursion (λ u. u.rev ≡ end_of m + 1)) is_last.kept_are number in
      let e_number : e.rev ≡ end_of m + 1 = (last_part (λ u. u.rev ≡ end_of m + 1) is_last.before (e ∷ []) numbered).0 in
      let below : AllByRecursion (λ u. transition_cmp u e ≡ Less) is_last.before = before_last is_last.before e (subst (IsStrictlySortedBy transition_cmp) is_last.kept_are sorted) in
      let firsts : AllByRecursion (λ u. u.rev ≡ end_of m + 1) is_last.before = first_part is_last.before (e ∷ []) numbered in
      subst (AllByRecursion (λ u. transition_cmp u t ≡ Less)) (sym is_last.kept_are)
      (all_append (λ u. transition_cmp u t ≡ Less) is_last.before (e ∷ [])
      (all_weaker (λ u. (u.rev ≡ end_of m + 1) × (transition_cmp u e ≡ Less)) (λ u. transition_cmp u t ≡ Less)
      (λ u b. less_by_key u t (omega (arith, b.0, here))
      (nat_list_cmp_total.trans u.obj.key e.obj.key t.obj.key (keys_less u e (omega (arith, b.0, e_number)) b.1) less))
      is_last.before (both (λ u. u.rev ≡ end_of m + 1) (λ u. transition_cmp u e ≡ Less) is_last.before firsts below))
      (less_by_key e t (omega (arith, e_number, here)) less, tt))
    where
      first_part : (xs ys : List TransitionData) → AllByRecursion (λ (u : TransitionData). u.rev ≡ end_of m + 1) (xs ++ ys) → AllByRecursion (λ (u : TransitionData). u.rev ≡ end_of m + 1) xs
      first_part [] ys all = tt
      first_part (x ∷ xs) ys all = (all.0, first_part xs ys all.1)

  few_with : (kept : List TransitionData) (last : Option Last) → IsLastOf kept last → AllByRecursion (λ k. k.rev ≡ end_of m + 1) kept → end_of m < t.rev → (t.rev ≡ reach_of m kept → HasRoomFor last t.obj.key)
      → length (kept_after kept (Told t)) ≤ 64
  few_with [] last is_last number above may = omega arith
  few_with (k ∷ kept) None is_last number above may = absurd (let bad : k ∷ kept ≡ [] = is_last in cc)
  few_with (k ∷ kept) (Some l) is_last number above may = elim (cases_lt (end_of m + 1) t.rev) [
    | inl later ↦
        omega (arith, ap length (none_of (end_of m + 1) t.rev (k ∷ kept) number later), length-append (of_revision t.rev (k ∷ kept)) (t ∷ []))
    | inr next ↦
        let here : t.rev ≡ end_of m + 1 = omega (arith, next, above) in
        let has = may here in
        omega (arith, has.1, is_last.count, ap length (all_of (end_of m + 1) t.rev (k ∷ kept) number (sym here)), length-append (of_revision t.rev (k ∷ kept)) (t ∷ []))
  ]

  pub comes_next : t.rev ≤ 2 ^ 62 → MayCome case.ask.selection walk t.kind t.obj t.rev → IsTakenNext case.ask.selection m is.kept t
  comes_next within may =
      let on : reach_of m is.kept ≤ t.rev = omega (arith, is.reach, may.onward) in
      let has : t.rev ≡ reach_of m is.kept → HasRoomFor walk.last t.obj.key = λ here. may.room (here ∙ sym is.reach) in
      let above : end_of m < t.rev = after_end m is.kept walk.last t.rev t.obj.key is.last on has in
      let behind : AllByRecursion (λ k. transition_cmp k t ≡ Less) is.kept = elim (cases_lt (end_of m + 1) t.rev) [
        | inl later ↦ all_weaker (λ u. u.rev ≡ end_of m + 1) (λ u. transition_cmp u t ≡ Less) (λ u number. less_by_number u t (omega (arith, number, later))) is.kept numbers
        | inr next ↦ behind_last is.kept walk.last is.last is.walked.are.sorted numbers (omega (arith, next, above)) has
      ] in
      record {
        above = above;
        behind = All-from_recursion (λ k. transition_cmp k t ≡ Less) is.kept behind;
        selected = may.selected;
        fits = subst (FitsRow t.kind t.obj) (sym (row_is above behind)) may.fits;
        few = few_with is.kept walk.last is.last numbers above has;
        within = within;
      }
