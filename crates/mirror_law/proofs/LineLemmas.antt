-- What the lines of a body tell, up to an event and up to a bookmark.
use Rattle.std.proofs.Common.{◌≡◌, ℕ, ◌-◌, ◌<◌, ◌≤◌, max, Bool, true, false, ltb, List, [], ◌∷◌, ◌++◌, map, All, Less, Greater, Ordering, refl, sym, ap, ◌∙◌, subst, inl, inr, arith}
use Rattle.std.specs.Prelude.{filter}
use Rattle.std.specs.List.{AllByRecursion}
use Rattle.std.specs.List.Sorted.{IsStrictlySortedBy}
use Rattle.std.specs.Ordering.{nat_cmp, ordering_then}
use Rattle.std.specs.Cmp.Lexicographic.{slice_cmp}
use Rattle.std.proofs.lemmas.Bool.{lt-ltb, le-ltb, ne_eqb, cases_lt}
use Rattle.std.proofs.lemmas.List.{append-nil}
use Rattle.std.proofs.lemmas.List.Elements.{filter-append, filter_map-append, recursion_from_All, All-nil}
use Rattle.kube_meta.specs.Rows.{RowData}
use Rattle.rev_log.specs.Logs.{Log, IsLog, end_of}
use Rattle.select_all.specs.declared.selection.Selection.{Selection}
use Rattle.select_all.specs.Selecting.{selects}
use Rattle.select_all.specs.Streams.{TransitionData, transitions, transition_cmp}
use Rattle.select_all.proofs.EventLaws.{all_weaker}
use Rattle.select_all.proofs.OrderLaws.{transitions_in_order}
use Rattle.select_all.proofs.StreamLaws.{transitions_are_joined}
use Rattle.watch_rules.specs.declared.ask.WatchAsk.{WatchAsk}
use Rattle.watch_rules.specs.declared.starts.Start.{Start}
use Rattle.watch_rules.specs.declared.starts.Start.TheVariants.{FromState, FromHere, FromRevision}
use Rattle.watch_rules.specs.Bodies.{Line, Bookmark, position_of, initial, told_by, told_in, IsOpening, TellsBody}
use Rattle.watch_rules.proofs.BodyLemmas.{streams_are_told, positions_are_between}
use Rattle.watch_rules.proofs.BookmarkLemmas.{bookmarks_tell_all}
use Rattle.mirror_law.specs.Mirrors.{IsMirrorOf}
use Rattle.mirror_law.specs.Following.{told_since}
use Rattle.mirror_law.proofs.ListLemmas.{none_kept, all_kept}
use Rattle.mirror_law.proofs.RowLemmas.{rows_are_old}

-- ---- parts of a list

pub told_since-append : (from : ℕ) (lines more : List Line) → told_since from (lines ++ more) ≡ told_since from lines ++ told_since from more
told_since-append from lines more =
    ap (filter (λ (t : TransitionData). ltb from t.rev)) (filter_map-append told_by lines more)
    ∙ filter-append (λ (t : TransitionData). ltb from t.rev) (told_in lines) (told_in more)

module _ {X : Type 0} (P : X → Type 0) where
  pub first_part : (xs ys : List X) → AllByRecursion P (xs ++ ys) → AllByRecursion P xs
  first_part [] ys all = tt
  first_part (x ∷ xs) ys all = (all.0, first_part xs ys all.1)

  pub last_part : (xs ys : List X) → AllByRecursion P (xs ++ ys) → AllByRecursion P ys
  last_part [] ys all = all
  last_part (x ∷ xs) ys all = last_part xs ys all.1

above_from : {X : Type 0} (c : X → X → Ordering) (xs : List X) (t : X) (ys : List X) → IsStrictlySortedBy c (xs ++ t ∷ ys) → AllByRecursion (λ y. c t y ≡ Less) ys
unfolding IsStrictlySortedBy
above_from c [] t ys sorted = sorted.0
above_from c (x ∷ xs) t ys sorted = above_from c xs t ys sorted.1

pub not_below : (t u : TransitionData) → transition_cmp t u ≡ Less → t.rev ≤ u.rev
not_below t u less = elim (cases_lt u.rev t.rev) [
  | inl below ↦ absurd (let bad : Greater ≡ Less = sym (ap (λ o. ordering_then o (slice_cmp nat_cmp t.obj.key u.obj.key)) (greater t.rev u.rev below)) ∙ less in cc)
  | inr not ↦ not
]
  where
    greater : (m n : ℕ) → n < m → nat_cmp m n ≡ Greater
    greater m n below = rw (le-ltb m n (omega (arith, below)), ne_eqb m n (λ same. absurd (omega (arith, same, below)))) refl

-- ---- up to an event

-- the transitions before one of them, if they are all of older revisions, are those up to the revision before its own
pub before_event : (peer : Log) (s : Selection) (from p : ℕ) (xs : List TransitionData) (t : TransitionData) (ys : List TransitionData)
    → IsLog peer → AllByRecursion (λ u. u.rev < t.rev) xs → xs ++ t ∷ ys ≡ transitions peer s from p
    → (from < t.rev) × (t.rev ≤ p) × (xs ≡ transitions peer s from (t.rev - 1))
before_event peer s from p xs t ys is older same =
    let old : TransitionData → Bool = λ u. ltb u.rev t.rev in
    let order = transitions_in_order (selects s) peer s.resource from p is in
    let within : AllByRecursion (λ u. (from < u.rev) × (u.rev ≤ p)) (xs ++ t ∷ ys) =
    subst (AllByRecursion (λ u. (from < u.rev) × (u.rev ≤ p))) (sym same) (recursion_from_All (λ u. (from < u.rev) × (u.rev ≤ p)) (transitions peer s from p) order.1) in
    let behind = last_part (λ u. (from < u.rev) × (u.rev ≤ p)) xs (t ∷ ys) within in
    let here : (from < t.rev) × (t.rev ≤ p) = behind.0 in
    let sorted : IsStrictlySortedBy transition_cmp (xs ++ t ∷ ys) = subst (IsStrictlySortedBy transition_cmp) (sym same) order.0 in
    let up : AllByRecursion (λ u. transition_cmp t u ≡ Less) ys = above_from transition_cmp xs t ys sorted in
    let kept_first : filter old xs ≡ xs = all_kept old xs (all_weaker (λ u. u.rev < t.rev) (λ u. old u ≡ true) (λ u below. lt-ltb u.rev t.rev below) xs older) in
    let none_behind : filter old (t ∷ ys) ≡ [] = none_kept old (t ∷ ys) (le-ltb t.rev t.rev (omega arith), all_weaker (λ u. transition_cmp t u ≡ Less) (λ u. old u ≡ false) (λ u less. le-ltb u.rev t.rev (not_below t u less)) ys up) in
    let left : filter old (xs ++ t ∷ ys) ≡ xs =
    filter-append old xs (t ∷ ys) ∙ ap (λ (l : List TransitionData). l ++ filter old (t ∷ ys)) kept_first ∙ ap (λ (l : List TransitionData). xs ++ l) none_behind ∙ append-nil xs in
    let one : List TransitionData = transitions peer s from (t.rev - 1) in
    let two : List TransitionData = transitions peer s (t.rev - 1) p in
    let joined : one ++ two ≡ transitions peer s from p = transitions_are_joined (selects s) peer s.resource from (t.rev - 1) p (omega (arith, here.0)) (omega (arith, here.1)) in
    let one_within = recursion_from_All (λ u. (from < u.rev) × (u.rev ≤ t.rev - 1)) one (transitions_in_order (selects s) peer s.resource from (t.rev - 1) is).1 in
    let two_within = recursion_from_All (λ u. (t.rev - 1 < u.rev) × (u.rev ≤ p)) two (transitions_in_order (selects s) peer s.resource (t.rev - 1) p is).1 in
    let all_one : filter old one ≡ one = all_kept old one (all_weaker (λ u. (from < u.rev) × (u.rev ≤ t.rev - 1)) (λ u. old u ≡ true) (λ u w. lt-ltb u.rev t.rev (omega (arith, w.0, w.1))) one one_within) in
    let none_two : filter old two ≡ [] = none_kept old two (all_weaker (λ u. (t.rev - 1 < u.rev) × (u.rev ≤ p)) (λ u. old u ≡ false) (λ u w. le-ltb u.rev t.rev (omega (arith, w.0))) two two_within) in
    let right : filter old (one ++ two) ≡ one =
    filter-append old one two ∙ ap (λ (l : List TransitionData). l ++ filter old two) all_one ∙ ap (λ (l : List TransitionData). one ++ l) none_two ∙ append-nil one in
    (here.0, here.1, sym left ∙ ap (filter old) (same ∙ sym joined) ∙ right)

-- ---- the lines of a body

-- the initial events of a start that a mirror has come to are old
pub opening_old : (peer : Log) (s : Selection) (b : ℕ) (m : Log) (start : Start) (from : ℕ) (rows : List RowData) → IsMirrorOf peer s b m → b ≤ from → from ≤ end_of m
    → IsOpening peer s start from rows → All (λ row. row.rev ≤ from) rows
opening_old peer s b m (FromState meaning) from rows mirrors begun within is =
    rows_are_old m s.resource from rows mirrors.log (omega (arith, mirrors.first, begun)) ((mirrors.states from rows begun within).1 is.0)
opening_old peer s b m (FromHere meaning) from rows mirrors begun within is = subst (All (λ row. row.rev ≤ from)) (sym is.0) (All-nil (λ row. row.rev ≤ from))
opening_old peer s b m (FromRevision revision) from rows mirrors begun within is = subst (All (λ row. row.rev ≤ from)) (sym is.0) (All-nil (λ row. row.rev ≤ from))

none_since : (from : ℕ) (rows : List RowData) → AllByRecursion (λ row. row.rev ≤ from) rows → filter (λ (t : TransitionData). ltb from t.rev) (map initial rows) ≡ []
none_since from [] old = refl
none_since from (row ∷ rows) old = rw (le-ltb from row.rev old.0) (none_since from rows old.1)

-- what is told behind old initial events
since : (peer : Log) (s : Selection) (from p : ℕ) (rows : List RowData) → IsLog peer → All (λ row. row.rev ≤ from) rows
    → filter (λ (t : TransitionData). ltb from t.rev) (map initial rows ++ transitions peer s from p) ≡ transitions peer s from p
since peer s from p rows is old =
    let young : TransitionData → Bool = λ t. ltb from t.rev in
    let ts : List TransitionData = transitions peer s from p in
    let within = recursion_from_All (λ t. (from < t.rev) × (t.rev ≤ p)) ts (transitions_in_order (selects s) peer s.resource from p is).1 in
    filter-append young (map initial rows) ts
    ∙ ap (λ (l : List TransitionData). l ++ filter young ts) (none_since from rows (recursion_from_All (λ row. row.rev ≤ from) rows old))
    ∙ all_kept young ts (all_weaker (λ t. (from < t.rev) × (t.rev ≤ p)) (λ t. young t ≡ true) (λ t w. lt-ltb from t.rev w.0) ts within)

module _ (peer : Log) (log_floor low from : ℕ) (ask : WatchAsk) (is : IsLog peer) where
  -- lines that tell a body tell the transitions up to a position, which isn't above the end of the peer's log
  pub body_told : (lines : List Line) (p : ℕ) (tells : TellsBody peer log_floor low ask from lines p) → All (λ row. row.rev ≤ from) tells.body.rows
      → told_since from lines ≡ transitions peer ask.selection from p
  body_told lines p tells old =
      let young : TransitionData → Bool = λ t. ltb from t.rev in
      let whole : told_in lines ≡ map initial tells.body.rows ++ transitions peer ask.selection from p =
      ap told_in tells.lines_are ∙ streams_are_told peer log_floor low ask tells.body tells.lawful
      ∙ ap (λ (n : ℕ). map initial tells.body.rows ++ transitions peer ask.selection n (position_of tells.body)) tells.begins
      ∙ ap (λ (n : ℕ). map initial tells.body.rows ++ transitions peer ask.selection from n) (sym tells.reached) in
      ap (filter young) whole ∙ since peer ask.selection from p tells.body.rows is old

  pub body_within : (lines : List Line) (p : ℕ) → TellsBody peer log_floor low ask from lines p → p ≤ max from (end_of peer)
  body_within lines p tells =
      let between = positions_are_between peer log_floor low ask tells.body tells.lawful in
      omega (arith, between.1, tells.begins, tells.reached)

  -- before a bookmark stand the transitions up to its revision
  pub bookmark_told : (lines more : List Line) (p at : ℕ) (tells : TellsBody peer log_floor low ask from (lines ++ Bookmark at ∷ more) p) → All (λ row. row.rev ≤ from) tells.body.rows
      → (from ≤ at) × (at ≤ end_of peer) × (told_since from lines ≡ transitions peer ask.selection from at)
  bookmark_told lines more p at tells old =
      let young : TransitionData → Bool = λ t. ltb from t.rev in
      let found = bookmarks_tell_all peer log_floor low ask tells.body lines more at tells.lawful (sym tells.lines_are) in (
        omega (arith, found.onward, tells.begins),
        found.reached,
        ap (filter young) (found.told ∙ ap (λ (n : ℕ). map initial tells.body.rows ++ transitions peer ask.selection n at) tells.begins)
            ∙ since peer ask.selection from at tells.body.rows is old,
      )
