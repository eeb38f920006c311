-- A mirror that follows lines goes on following.
use Rattle.std.proofs.Common.{◌≡◌, ℕ, ◌+◌, ◌-◌, ◌<◌, ◌≤◌, max, true, false, IsTrue, eqb, List, [], ◌∷◌, ◌++◌, All, refl, sym, ap, ◌∙◌, subst, append_assoc, inl, inr, arith}
use Rattle.std.specs.List.{AllByRecursion}
use Rattle.std.proofs.lemmas.Bool.{lt-ltb, le-ltb, eq-eqb, ne_eqb, eqb-true, cases_lt}
use Rattle.std.proofs.lemmas.List.{append-nil, append_cancel_left, length-append, nil_from_length}
use Rattle.std.proofs.lemmas.List.Elements.{recursion_from_All, All-nil, All-push, All-weaker, filter_passes}
use Rattle.std.proofs.lemmas.List.Sums.{fold-append}
use Rattle.kube_meta.specs.declared.resources.Resource.{Resource}
use Rattle.kube_meta.specs.declared.resources.Resource.TheVariants.{Pods}
use Rattle.kube_meta.specs.Rows.{RowData}
use Rattle.rev_log.specs.Changes.{RevisionData}
use Rattle.rev_log.specs.Logs.{Log, IsLog, grown, end_of}
use Rattle.select_all.specs.declared.selection.Selection.{Selection}
use Rattle.select_all.specs.Selecting.{selects}
use Rattle.select_all.specs.Listings.{IsListing, IsListingBy}
use Rattle.select_all.specs.Streams.{TransitionData, transitions}
use Rattle.select_all.proofs.EventLaws.{all_weaker, all_append}
use Rattle.select_all.proofs.OrderLaws.{transitions_in_order}
use Rattle.select_all.proofs.StreamLaws.{transitions_are_joined, no_transitions}
use Rattle.watch_rules.specs.declared.ask.WatchAsk.{WatchAsk}
use Rattle.watch_rules.specs.declared.starts.Start.{Start}
use Rattle.watch_rules.specs.declared.starts.Start.TheVariants.{FromState, FromHere, FromRevision}
use Rattle.watch_rules.specs.Starts.{is_from_state}
use Rattle.watch_rules.specs.Bodies.{Line, Told, Bookmark, Closing, Lost, initial, initial_lines, lines_of, IsOpening, TellsBody, BeginsBody}
use Rattle.watch_rules.proofs.BookmarkLemmas.{closings_tell_the_start}
use Rattle.mirror_law.specs.Mirrors.{IsMirrorBy, IsMirrorOf, opened_log, of_revision, AreToldBy}
use Rattle.mirror_law.specs.Following.{told_since, upto_of, upto_in, MovesOn, kept_after, Follows}
use Rattle.mirror_law.specs.Laws.{FollowingsBegin, FollowingsBeginAnew, FollowingsCommit, FollowingsHear, FollowingsMark, FollowingsResume}
use Rattle.mirror_law.proofs.ListLemmas.{none_kept, all_kept}
use Rattle.mirror_law.proofs.MirrorLemmas.{mirrors_begin, mirrors_begin_anew, mirrors_go_on}
use Rattle.mirror_law.proofs.RowLemmas.{rows_are_old}
use Rattle.mirror_law.proofs.LineLemmas.{told_since-append, before_event, opening_old, body_told, body_within, bookmark_told}

-- ---- up to where lines tell

pub upto_more : (from : ℕ) (lines : List Line) (line : Line) → upto_in from (lines ++ line ∷ []) ≡ max (upto_in from lines) (upto_of line)
upto_more from lines line = fold-append (λ (at : ℕ) (l : Line). max at (upto_of l)) from lines (line ∷ [])

pub from_on : (from : ℕ) (lines : List Line) → from ≤ upto_in from lines
from_on from [] = omega arith
from_on from (line ∷ lines) = omega (arith, from_on (max from (upto_of line)) lines)

-- ---- what is kept is what was told behind the end

-- a log that has no more revisions
same_log : (m : Log) (more : List RevisionData) → end_of (grown m more) ≤ end_of m → grown m more ≡ m
same_log m more within =
    let none : more ≡ [] = nil_from_length more (omega (arith, length-append m.revisions more, within)) in
    ap (λ (revisions : List RevisionData). record m { revisions = revisions }) (ap (λ (xs : List RevisionData). m.revisions ++ xs) none ∙ append-nil m.revisions)

module _ (peer : Log) (log_floor low b from : ℕ) (ask : WatchAsk) (lines : List Line) (m : Log) (kept : List TransitionData)
    (is : IsLog peer) (follows : Follows peer ask.selection b from lines m kept) where
  pub within_end : from ≤ end_of m
  within_end = omega (arith, from_on from lines, follows.reached)

  pub old_rows : (all : List Line) (p : ℕ) (tells : TellsBody peer log_floor low ask from all p) → All (λ row. row.rev ≤ from) tells.body.rows
  old_rows all p tells =
      subst (λ (n : ℕ). All (λ (row : RowData). row.rev ≤ n) tells.body.rows) tells.begins
      (opening_old peer ask.selection b m ask.start tells.body.at tells.body.rows follows.mirrors (omega (arith, follows.begun, tells.begins)) (omega (arith, within_end, tells.begins)) tells.lawful.opening)

  -- behind the end stands what is kept
  pub told_behind : (upto : ℕ) → end_of m ≤ upto → told_since from lines ≡ transitions peer ask.selection from upto → kept ≡ transitions peer ask.selection (end_of m) upto
  told_behind upto order told =
      append_cancel_left (transitions peer ask.selection from (end_of m)) kept (transitions peer ask.selection (end_of m) upto)
      (sym follows.told ∙ told ∙ sym (transitions_are_joined (selects ask.selection) peer ask.selection.resource from (end_of m) upto within_end order))

  -- ---- an event

  heard_older : (t : TransitionData) → end_of m + 1 < t.rev → AllByRecursion (λ u. u.rev < t.rev) (told_since from lines)
  heard_older t later =
      let first : List TransitionData = transitions peer ask.selection from (end_of m) in
      let within = recursion_from_All (λ u. (from < u.rev) × (u.rev ≤ end_of m)) first (transitions_in_order (selects ask.selection) peer ask.selection.resource from (end_of m) is).1 in
      subst (AllByRecursion (λ u. u.rev < t.rev)) (sym follows.told)
      (all_append (λ u. u.rev < t.rev) first kept
      (all_weaker (λ u. (from < u.rev) × (u.rev ≤ end_of m)) (λ u. u.rev < t.rev) (λ u w. omega (arith, w.1, later)) first within)
      (all_weaker (λ u. u.rev ≡ end_of m + 1) (λ u. u.rev < t.rev) (λ u number. omega (arith, number, later)) kept (recursion_from_All (λ u. u.rev ≡ end_of m + 1) kept follows.next)))

  pub one_since : (t : TransitionData) → end_of m < t.rev → told_since from (Told t ∷ []) ≡ t ∷ []
  one_since t above = rw (lt-ltb from t.rev (omega (arith, within_end, above))) refl

  since_first : (t : TransitionData) (more : List Line) → end_of m < t.rev → told_since from (Told t ∷ more) ≡ t ∷ told_since from more
  since_first t more above = rw (lt-ltb from t.rev (omega (arith, within_end, above))) refl

  -- what was heard, the event and what follows it are the transitions up to a position that the peer's log has reached
  pub event_stream : (t : TransitionData) → end_of m < t.rev → BeginsBody peer log_floor low ask from (lines ++ Told t ∷ [])
      → (p : ℕ) × (ys : List TransitionData) × (p ≤ end_of peer) × (told_since from lines ++ t ∷ ys ≡ transitions peer ask.selection from p)
  event_stream t above begins =
      let all : List Line = (lines ++ Told t ∷ []) ++ begins.0 in
      let old = old_rows all begins.1 begins.2 in
      let whole : told_since from all ≡ transitions peer ask.selection from begins.1 = body_told peer log_floor low from ask is all begins.1 begins.2 old in
      let parted : told_since from lines ++ t ∷ told_since from begins.0 ≡ told_since from all =
      ap (λ (l : List TransitionData). told_since from lines ++ l) (sym (since_first t begins.0 above))
      ∙ sym (told_since-append from lines (Told t ∷ begins.0))
      ∙ sym (ap (told_since from) (append_assoc lines (Told t ∷ []) begins.0)) in
      let reach = body_within peer log_floor low from ask is all begins.1 begins.2 in
      (begins.1, told_since from begins.0, omega (arith, reach, within_end, follows.mirrors.reached), parted ∙ whole)

  -- where the event leaves a gap behind the end, what was heard is all up to the revision before it
  pub event_told : (t : TransitionData) → end_of m + 1 < t.rev → BeginsBody peer log_floor low ask from (lines ++ Told t ∷ [])
      → (t.rev ≤ end_of peer) × (told_since from lines ≡ transitions peer ask.selection from (t.rev - 1))
  event_told t later begins =
      let stream = event_stream t (omega (arith, later)) begins in
      let found = before_event peer ask.selection from stream.0 (told_since from lines) t stream.1 is (heard_older t later) stream.3 in
      (omega (arith, found.1, stream.2), found.2)

  -- ---- a bookmark

  pub mark_told : (at : ℕ) → BeginsBody peer log_floor low ask from (lines ++ Bookmark at ∷ []) → (at ≤ end_of peer) × (told_since from lines ≡ transitions peer ask.selection from at)
  mark_told at begins =
      let all : List Line = lines ++ Bookmark at ∷ begins.0 in
      let tells : TellsBody peer log_floor low ask from all begins.1 = subst (λ (l : List Line). TellsBody peer log_floor low ask from l begins.1) (append_assoc lines (Bookmark at ∷ []) begins.0) begins.2 in
      let found = bookmark_told peer log_floor low from ask is lines begins.0 begins.1 at tells (old_rows all begins.1 tells) in
      (found.1, found.2)

  -- ---- commits

  commits : (upto : ℕ) (more : List RevisionData) → end_of m ≤ upto → upto ≤ end_of peer → told_since from lines ≡ transitions peer ask.selection from upto
      → AreToldBy ask.selection.resource kept (end_of m) more → end_of (grown m more) ≤ upto → IsMirrorOf peer ask.selection b (grown m more)
  commits upto more order reached told are within =
      mirrors_go_on (selects ask.selection) peer ask.selection.resource b upto m more is follows.mirrors (omega (arith, length-append m.revisions more, within)) reached
      (subst (λ (l : List TransitionData). AreToldBy ask.selection.resource l (end_of m) more) (told_behind upto order told) are)

  commits_line : (line : Line) (more : List RevisionData) → BeginsBody peer log_floor low ask from (lines ++ line ∷ []) → MovesOn (end_of m) line
      → AreToldBy ask.selection.resource kept (end_of m) more → end_of (grown m more) ≤ upto_of line → IsMirrorOf peer ask.selection b (grown m more)
  commits_line (Told t) more begins onward are within = elim (cases_lt (end_of m + 1) t.rev) [
    | inl later ↦ let found = event_told t later begins in commits (t.rev - 1) more (omega (arith, later)) (omega (arith, found.0)) found.1 are within
    | inr next ↦ subst (IsMirrorOf peer ask.selection b) (sym (same_log m more (omega (arith, next, within)))) follows.mirrors
  ]
  commits_line (Bookmark at) more begins onward are within = let found = mark_told at begins in commits at more onward found.0 found.1 are within
  commits_line (Closing at) more begins onward are within = absurd onward
  commits_line (Lost at floor) more begins onward are within = absurd onward

  -- ---- the mirror that follows on

  hears : (t : TransitionData) (more : List RevisionData) → BeginsBody peer log_floor low ask from (lines ++ Told t ∷ []) → end_of m < t.rev
      → AreToldBy ask.selection.resource kept (end_of m) more → end_of (grown m more) ≡ t.rev - 1
      → Follows peer ask.selection b from (lines ++ Told t ∷ []) (grown m more) (of_revision t.rev kept ++ t ∷ [])
  hears t more begins above are end = record {
    mirrors = commits_line (Told t) more begins above are (omega (arith, end));
    begun = follows.begun;
    reached = omega (arith, end, upto_more from lines (Told t), follows.reached, above);
    told = told_since-append from lines (Told t ∷ []) ∙ ap (λ (l : List TransitionData). told_since from lines ++ l) (one_since t above) ∙ told_before
        ∙ ap (λ (n : ℕ). transitions peer ask.selection from n ++ (of_revision t.rev kept ++ t ∷ [])) (sym end);
    next = All-push (λ u. u.rev ≡ end_of (grown m more) + 1) (of_revision t.rev kept) t kept_number (omega (arith, end, above));
  }
    where
      numbers : AllByRecursion (λ u. u.rev ≡ end_of m + 1) kept
      numbers = recursion_from_All (λ u. u.rev ≡ end_of m + 1) kept follows.next

      told_before : told_since from lines ++ t ∷ [] ≡ transitions peer ask.selection from (t.rev - 1) ++ (of_revision t.rev kept ++ t ∷ [])
      told_before = elim (cases_lt (end_of m + 1) t.rev) [
        | inl later ↦
            let none : of_revision t.rev kept ≡ [] = none_kept (λ u. eqb u.rev t.rev) kept (all_weaker (λ u. u.rev ≡ end_of m + 1) (λ u. eqb u.rev t.rev ≡ false)
            (λ u number. ne_eqb u.rev t.rev (λ same. absurd (omega (arith, number, same, later)))) kept numbers) in
            ap (λ (l : List TransitionData). l ++ t ∷ []) (event_told t later begins).1
            ∙ ap (λ (l : List TransitionData). transitions peer ask.selection from (t.rev - 1) ++ (l ++ t ∷ [])) (sym none)
        | inr next ↦
            let whole : of_revision t.rev kept ≡ kept = all_kept (λ u. eqb u.rev t.rev) kept (all_weaker (λ u. u.rev ≡ end_of m + 1) (λ u. eqb u.rev t.rev ≡ true)
            (λ u number. eq-eqb u.rev t.rev (omega (arith, number, next, above))) kept numbers) in
            let here : end_of m ≡ t.rev - 1 = omega (arith, next, above) in
            ap (λ (l : List TransitionData). l ++ t ∷ []) follows.told
            ∙ append_assoc (transitions peer ask.selection from (end_of m)) kept (t ∷ [])
            ∙ ap (λ (n : ℕ). transitions peer ask.selection from n ++ (kept ++ t ∷ [])) here
            ∙ ap (λ (l : List TransitionData). transitions peer ask.selection from (t.rev - 1) ++ (l ++ t ∷ [])) (sym whole)
      ]

      kept_number : All (λ u. u.rev ≡ end_of (grown m more) + 1) (of_revision t.rev kept)
      kept_number = All-weaker (λ u. eqb u.rev t.rev ≡ true) (λ u. u.rev ≡ end_of (grown m more) + 1)
          (λ u same. omega (arith, eqb-true u.rev t.rev same, end, above)) (of_revision t.rev kept) (filter_passes (λ u. eqb u.rev t.rev) kept)

  marks : (at : ℕ) (more : List RevisionData) → BeginsBody peer log_floor low ask from (lines ++ Bookmark at ∷ []) → end_of m ≤ at
      → AreToldBy ask.selection.resource kept (end_of m) more → end_of (grown m more) ≡ at
      → Follows peer ask.selection b from (lines ++ Bookmark at ∷ []) (grown m more) []
  marks at more begins above are end =
      let found = mark_told at begins in
      record {
        mirrors = commits_line (Bookmark at) more begins above are (omega (arith, end));
        begun = follows.begun;
        reached = omega (arith, end, upto_more from lines (Bookmark at), follows.reached, above);
        told = told_since-append from lines (Bookmark at ∷ []) ∙ append-nil (told_since from lines) ∙ found.1
            ∙ ap (λ (n : ℕ). transitions peer ask.selection from n) (sym end)
            ∙ sym (append-nil (transitions peer ask.selection from (end_of (grown m more))));
        next = All-nil (λ u. u.rev ≡ end_of (grown m more) + 1);
      }

-- ---- the laws

pub followings_commit : FollowingsCommit
followings_commit peer log_floor low b from s ask lines m kept line more is of follows begins onward are within =
    subst (λ (u : Selection). IsMirrorOf peer u b (grown m more)) of
    (commits_line peer log_floor low b from ask lines m kept is (subst (λ (u : Selection). Follows peer u b from lines m kept) (sym of) follows) line more begins onward
    (subst (λ (u : Selection). AreToldBy u.resource kept (end_of m) more) (sym of) are) within)

pub followings_hear : FollowingsHear
followings_hear peer log_floor low b from s ask lines m kept t more is of follows begins onward are end =
    subst (λ (u : Selection). Follows peer u b from (lines ++ Told t ∷ []) (grown m more) (kept_after kept (Told t))) of
    (hears peer log_floor low b from ask lines m kept is (subst (λ (u : Selection). Follows peer u b from lines m kept) (sym of) follows) t more begins onward
    (subst (λ (u : Selection). AreToldBy u.resource kept (end_of m) more) (sym of) are) end)

pub followings_mark : FollowingsMark
followings_mark peer log_floor low b from s ask lines m kept at more is of follows begins onward are end =
    subst (λ (u : Selection). Follows peer u b from (lines ++ Bookmark at ∷ []) (grown m more) []) of
    (marks peer log_floor low b from ask lines m kept is (subst (λ (u : Selection). Follows peer u b from lines m kept) (sym of) follows) at more begins onward
    (subst (λ (u : Selection). AreToldBy u.resource kept (end_of m) more) (sym of) are) end)

pub followings_resume : FollowingsResume
followings_resume peer b s m mirrors = record {
  mirrors = mirrors;
  begun = mirrors.begun;
  reached = refl;
  told = sym (append-nil (transitions peer s (end_of m) (end_of m)) ∙ no_transitions (selects s) peer s.resource (end_of m) (end_of m) (omega arith));
  next = All-nil (λ t. t.rev ≡ end_of m + 1);
}

-- ---- the beginning

rows_alike : (rows others : List RowData) → initial_lines rows ≡ initial_lines others → rows ≡ others
rows_alike [] [] same = refl
rows_alike [] (y ∷ others) same = absurd (cc)
rows_alike (x ∷ rows) [] same = absurd (cc)
rows_alike (x ∷ rows) (y ∷ others) same =
    let line : Told (initial x) ≡ Told (initial y) = cc in
    let first : initial x ≡ initial y = cc in
    let row : x ≡ y = ap (λ (t : TransitionData). record { obj = t.obj; rev = t.rev }) first in
    let rest : initial_lines rows ≡ initial_lines others = cc in
    ap (λ (r : RowData). r ∷ rows) row ∙ ap (λ (l : List RowData). y ∷ l) (rows_alike rows others rest)

opening_since : (b : ℕ) (rows : List RowData) (more : List Line) → AllByRecursion (λ row. row.rev ≤ b) rows → told_since b (initial_lines rows ++ more) ≡ told_since b more
opening_since b [] more old = refl
opening_since b (row ∷ rows) more old = rw (le-ltb b row.rev old.0) (opening_since b rows more old.1)

pub opening_upto : (b : ℕ) (rows : List RowData) → AllByRecursion (λ row. row.rev ≤ b) rows → upto_in b (initial_lines rows ++ Closing b ∷ []) ≡ b
opening_upto b [] old = omega arith
opening_upto b (row ∷ rows) old =
    let same : max b (row.rev - 1) ≡ b = omega (arith, old.0) in
    ap (λ (n : ℕ). upto_in n (initial_lines rows ++ Closing b ∷ [])) same ∙ opening_upto b rows old.1

listed : (peer : Log) (t : Selection) (start : Start) (at : ℕ) (rows : List RowData) → IsTrue (is_from_state start) → IsOpening peer t start at rows → IsListing peer t at rows × (at ≤ end_of peer)
listed peer t (FromState meaning) at rows from opening = opening
listed peer t (FromHere meaning) at rows from opening = absurd (cc)
listed peer t (FromRevision revision) at rows from opening = absurd (cc)

-- the rows of an opening that ended are the listing at its revision
pub opening_listed : (peer : Log) (log_floor low b : ℕ) (ask : WatchAsk) (rows : List RowData) → BeginsBody peer log_floor low ask b (initial_lines rows ++ Closing b ∷ []) → IsListing peer ask.selection b rows × (b ≤ end_of peer)
opening_listed peer log_floor low b ask rows begins =
    let tells : TellsBody peer log_floor low ask b ((initial_lines rows ++ Closing b ∷ []) ++ begins.0) begins.1 = begins.2 in
    let lines_are : lines_of peer ask tells.body ≡ initial_lines rows ++ Closing b ∷ begins.0 = sym tells.lines_are ∙ append_assoc (initial_lines rows) (Closing b ∷ []) begins.0 in
    let found = closings_tell_the_start peer log_floor low ask tells.body (initial_lines rows) begins.0 b tells.lawful lines_are in
    let same : tells.body.rows ≡ rows = sym (rows_alike rows tells.body.rows found.told) in
    let listing = listed peer ask.selection ask.start tells.body.at tells.body.rows (ask.closing_a_state found.wanted) tells.lawful.opening in (
      subst (λ (l : List RowData). IsListing peer ask.selection b l) same (subst (λ (n : ℕ). IsListing peer ask.selection n tells.body.rows) tells.begins listing.0),
      found.reached,
    )

-- a mirror that has come no further than the opening
follows_opening : (peer : Log) (s : Selection) (b : ℕ) (m : Log) (rows : List RowData) → IsMirrorOf peer s b m → end_of m ≡ b → All (λ row. row.rev ≤ b) rows
    → Follows peer s b b (initial_lines rows ++ Closing b ∷ []) m []
follows_opening peer s b m rows mirrors end old =
    let each = recursion_from_All (λ row. row.rev ≤ b) rows old in
    record {
      mirrors = mirrors;
      begun = omega arith;
      reached = omega (arith, end, opening_upto b rows each);
      told = opening_since b rows (Closing b ∷ []) each ∙ sym (append-nil (transitions peer s b (end_of m)) ∙ no_transitions (selects s) peer s.resource b (end_of m) (omega (arith, end)));
      next = All-nil (λ t. t.rev ≡ end_of m + 1);
    }

pub followings_begin : FollowingsBegin
followings_begin peer log_floor low b s ask rows is of pods old begins =
    let listing = opening_listed peer log_floor low b ask rows begins in
    let listing_of : IsListing peer s b rows = subst (λ (u : Selection). IsListing peer u b rows) of listing.0 in
    let of_pods : IsListingBy (selects s) peer Pods b rows = subst (λ (r : Resource). IsListingBy (selects s) peer r b rows) pods listing_of in
    follows_opening peer s b (opened_log b rows) rows
    (subst (λ (r : Resource). IsMirrorBy (selects s) peer r b (opened_log b rows)) (sym pods) (mirrors_begin (selects s) peer b rows is listing.1 of_pods old)) (omega arith) old

pub followings_begin_anew : FollowingsBeginAnew
followings_begin_anew peer log_floor low b s ask m rows is of log end state begins =
    let listing = opening_listed peer log_floor low b ask rows begins in
    let listing_of : IsListing peer s b rows = subst (λ (u : Selection). IsListing peer u b rows) of listing.0 in
    follows_opening peer s b m rows (mirrors_begin_anew (selects s) peer s.resource b m rows is log end listing.1 state listing_of) end
    (rows_are_old m s.resource b rows log (omega (arith, end)) state)
