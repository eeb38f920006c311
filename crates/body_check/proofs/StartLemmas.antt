-- What is found of the lines of a start is found of the lawful bodies that begin there.
use Rattle.std.proofs.Common.{◌≡◌, ℕ, ◌+◌, ◌-◌, ◌<◌, ◌≤◌, max, inl, inr, Bool, IsTrue, List, [], ◌∷◌, ◌++◌, map, filter_map, fold, take, drop, length, Option, Some, None, IfSome, refl, sym, ap, ◌∙◌, subst, append_assoc, append-nil, arith}
use Rattle.std.specs.BTreeMap.{BTreeMap, values}
use Rattle.std.specs.List.{AllByRecursion}
use Rattle.std.specs.List.Sorted.{IsStrictlySortedBy}
use Rattle.std.proofs.lemmas.Bool.{cases_Bool, cases_lt, le-leb, lt-leb}
use Rattle.std.proofs.lemmas.List.{map-append}
use Rattle.std.proofs.lemmas.List.Elements.{All-from_recursion}
use Rattle.kube_meta.specs.declared.resources.Resource.{Resource}
use Rattle.kube_meta.specs.declared.resources.Resource.TheVariants.{Pods}
use Rattle.kube_meta.specs.Resources.{same_resource}
use Rattle.kube_meta.specs.Rows.{RowData, AreRising}
use Rattle.rev_log.specs.Logs.{Log, IsLog, end_of}
use Rattle.rev_log.specs.Rows.{Holds}
use Rattle.rev_log.specs.States.{row_in_base, row_next}
use Rattle.rev_log.proofs.FitLemmas.{are_logs}
use Rattle.rev_log.proofs.MapLemmas.{values_rise, row_with-values}
use Rattle.select_all.specs.declared.selection.Selection.{Selection}
use Rattle.select_all.specs.Floors.{IsEvicted}
use Rattle.select_all.specs.Selecting.{selects}
use Rattle.select_all.specs.Streams.{Standing, TransitionData, events_from, transition_by, transitions}
use Rattle.select_all.proofs.ListingLaws.{listings_are_one}
use Rattle.select_all.proofs.StreamLaws.{transitions_are_joined, no_transitions}
use Rattle.watch_record.specs.declared.records.Record.{Record}
use Rattle.watch_rules.specs.Bodies.{Line, Body, reached_by, position_of, opening_lines, piece_lines, loss_lines, lines_of, IsOpening, IsWatchBody}
use Rattle.watch_rules.specs.declared.starts.Start.{Start}
use Rattle.watch_rules.specs.declared.starts.Start.TheVariants.{FromState, FromHere, FromRevision}
use Rattle.body_check.specs.declared.found.Found.{Found}
use Rattle.body_check.specs.Courses.{text_in, course_of, untold_at, rows_told, opening_texts, IsRanged}
use Rattle.body_check.specs.Findings.{Behind, IsFound}
use Rattle.body_check.specs.Judging.{record_log, IsToldBy}
use Rattle.body_check.specs.Losses.{is_lost}
use Rattle.body_check.specs.Moves.{standing, drop_upto}
use Rattle.body_check.specs.Reading.{IsUnderWay, Reads}
use Rattle.body_check.proofs.Findings.{found-same}
use Rattle.body_check.proofs.LossLemmas.{lost_evicted, evicted_lost}
use Rattle.body_check.proofs.Order.{BeginsAbove, untold_within}
use Rattle.body_check.proofs.Pieces.{Goes, reads_start, starts_reads}

-- ---- the log

none_rise : AreRising []
unfolding IsStrictlySortedBy
none_rise = tt

pub is_log : (case : Record) → IsLog (record_log case)
is_log case = are_logs (record_log case) case.fitting none_rise (All-from_recursion (λ (row : RowData). row.rev ≤ case.first) [] tt) case.ends

-- there is one list of rows at a start
one_opening : (log : Log) (s : Selection) (start : Start) (at : ℕ) (rows others : List RowData) → IsOpening log s start at rows → IsOpening log s start at others → rows ≡ others
one_opening log s (FromState meaning) at rows others is other = listings_are_one (selects s) log s.resource at rows others is.0 other.0
one_opening log s (FromHere meaning) at rows others is other = is.0 ∙ sym other.0
one_opening log s (FromRevision revision) at rows others is other = is.0 ∙ sym other.0

-- ---- moves passed over

drop_first : (b : ℕ) (xs ys : List TransitionData) → AllByRecursion (λ (t : TransitionData). t.rev ≤ b) xs → BeginsAbove b ys → drop_upto b (xs ++ ys) ≡ ys
drop_first b [] [] low begins = refl
drop_first b [] (t ∷ ys) low begins = rw (lt-leb t.rev b begins) refl
drop_first b (x ∷ xs) ys low begins = rw (le-leb x.rev b low.0) (drop_first b xs ys low.1 begins)

module _ (case : Record) where
  abbrev log : Log
  log = record_log case

  abbrev s : Selection
  s = case.ask.selection

  abbrev lost : ℕ → ℕ → Bool
  lost p floor = is_lost (record_log case) case.floor case.window case.ask.selection.resource p floor

  abbrev Going : ℕ → List (List ℕ) → ℕ → Type 0
  Going at texts p = Goes (record_log case) case.ask.selection (text_in case) case.ask.bookmarks (λ q floor. is_lost (record_log case) case.floor case.window case.ask.selection.resource q floor) at texts p

  abbrev IsEvictedHere : ℕ → ℕ → Type 0
  IsEvictedHere p floor = IsEvicted (record_log case) case.floor case.window case.ask.selection.resource p floor

  -- ---- the texts of a body

  regrouped : (opening pieces last : List Line) → map (text_in case) (opening ++ pieces ++ last) ≡ map (text_in case) opening ++ map (text_in case) (pieces ++ last)
  regrouped opening pieces last = ap (map (text_in case)) (append_assoc opening pieces last) ∙ map-append (text_in case) opening (pieces ++ last)

  as_evicted : (p q : ℕ) (loss : Option ℕ) → p ≡ q → IfSome loss (λ floor. IsTrue (lost p floor)) → IfSome loss (λ floor. IsEvictedHere q floor)
  as_evicted p q None same borne = tt
  as_evicted p q (Some floor) same borne = subst (λ (n : ℕ). IsEvictedHere n floor) same (lost_evicted (record_log case) case.ask.selection.resource case.floor case.window p floor borne)

  as_lost : (p : ℕ) (loss : Option ℕ) → IfSome loss (λ floor. IsEvictedHere p floor) → IfSome loss (λ floor. IsTrue (lost p floor))
  as_lost p None evicted = tt
  as_lost p (Some floor) evicted = evicted_lost (record_log case) case.ask.selection.resource case.floor case.window p floor evicted

  module _ (at : ℕ) (rows : List RowData) (is : IsOpening (record_log case) case.ask.selection case.ask.start at rows) where
    abbrev opening : List (List ℕ)
    opening = map (text_in case) (opening_lines case.ask at rows)

    -- what goes on from the opening is told by a body
    going_told : (more : List (List ℕ)) (p : ℕ) → Going at more p → IsToldBy case at (opening ++ more) p
    going_told more p goes =
        let body : Body = record { at = at; rows = rows; pieces = goes.pieces; loss = goes.loss } in
        record {
          lines = lines_of (record_log case) case.ask body;
          tells = record {
            body = body;
            lawful = record { opening = is; pieces = goes.are; lost = as_evicted p (reached_by at goes.pieces) goes.loss goes.reached goes.borne };
            begins = refl;
            lines_are = refl;
            reached = goes.reached;
          };
          texts_are =
              ap (λ (l : List (List ℕ)). map (text_in case) (opening_lines case.ask at rows) ++ l)
              (goes.texts_are ∙ ap (λ (n : ℕ). map (text_in case) (piece_lines (record_log case) case.ask.selection at goes.pieces ++ loss_lines n goes.loss)) goes.reached)
              ∙ sym (regrouped (opening_lines case.ask at rows) (piece_lines (record_log case) case.ask.selection at goes.pieces) (loss_lines (reached_by at goes.pieces) goes.loss));
        }

  -- a body's texts are those of its opening and what goes on from there
  body_goes : (body : Body) → IsWatchBody (record_log case) case.floor case.window case.ask body
      → Behind (map (text_in case) (opening_lines case.ask body.at body.rows)) (Going body.at) (map (text_in case) (lines_of (record_log case) case.ask body)) (position_of body)
  body_goes body is = (
    map (text_in case) (piece_lines (record_log case) case.ask.selection body.at body.pieces ++ loss_lines (position_of body) body.loss),
    regrouped (opening_lines case.ask body.at body.rows) (piece_lines (record_log case) case.ask.selection body.at body.pieces) (loss_lines (position_of body) body.loss),
    record { pieces = body.pieces; loss = body.loss; are = is.pieces; borne = as_lost (position_of body) body.loss is.lost; texts_are = refl; reached = refl },
  )

  told_goes : (at : ℕ) (rows : List RowData) → IsOpening (record_log case) case.ask.selection case.ask.start at rows → (texts : List (List ℕ)) (p : ℕ) → IsToldBy case at texts p
      → Behind (map (text_in case) (opening_lines case.ask at rows)) (Going at) texts p
  told_goes at rows is texts p told =
      let body : Body = told.tells.body in
      let here : IsOpening (record_log case) case.ask.selection case.ask.start at body.rows = subst (λ (n : ℕ). IsOpening (record_log case) case.ask.selection case.ask.start n body.rows) told.tells.begins told.tells.lawful.opening in
      let same : body.rows ≡ rows = one_opening (record_log case) case.ask.selection case.ask.start at body.rows rows here is in
      let texts_are : texts ≡ map (text_in case) (lines_of (record_log case) case.ask body) = told.texts_are ∙ ap (map (text_in case)) told.tells.lines_are in
      subst (λ (l : List (List ℕ)). Behind (map (text_in case) (opening_lines case.ask at rows)) (Going at) l p) (sym texts_are)
      (subst (λ (q : ℕ). Behind (map (text_in case) (opening_lines case.ask at rows)) (Going at) (map (text_in case) (lines_of (record_log case) case.ask body)) q) (sym told.tells.reached)
      (subst (λ (r : List RowData). Behind (map (text_in case) (opening_lines case.ask at r)) (Going at) (map (text_in case) (lines_of (record_log case) case.ask body)) (position_of body)) same
      (subst (λ (n : ℕ). Behind (map (text_in case) (opening_lines case.ask n body.rows)) (Going n) (map (text_in case) (lines_of (record_log case) case.ask body)) (position_of body)) told.tells.begins
      (body_goes body told.tells.lawful))))

  -- so what is found of the lines by reading is found of bodies
  pub found_told_by : (at : ℕ) (rows : List RowData) (texts : List (List ℕ)) (r : Found)
      → IsOpening (record_log case) case.ask.selection case.ask.start at (rows_told case.ask.start case.ask.selection rows)
      → IsFound (Behind (opening_texts case at rows) (Reads (course_of case at) (untold_at case at) at)) texts r → IsFound (IsToldBy case at) texts r
  found_told_by at rows texts r is found =
      found-same (Behind (opening_texts case at rows) (Reads (course_of case at) (untold_at case at) at)) (IsToldBy case at) (
        λ xs p behind. subst (λ (l : List (List ℕ)). IsToldBy case at l p) (sym behind.1)
            (going_told at (rows_told case.ask.start case.ask.selection rows) is behind.0 p
            (reads_start (record_log case) (is_log case) case.ask.selection (text_in case) case.ask.bookmarks (λ q floor. is_lost (record_log case) case.floor case.window case.ask.selection.resource q floor) at behind.0 p behind.2)),
        λ xs p told.
            let behind = told_goes at (rows_told case.ask.start case.ask.selection rows) is xs p told in
            (behind.0, behind.1, starts_reads (record_log case) (is_log case) case.ask.selection (text_in case) case.ask.bookmarks (λ q floor. is_lost (record_log case) case.floor case.window case.ask.selection.resource q floor) at behind.0 p behind.2),
      ) texts r found

  -- ---- the moves

  pub under_way : (at : ℕ) → IsUnderWay (course_of case at) (untold_at case at) at
  under_way at = record {
    position = omega arith;
    untold = All-from_recursion (λ (t : TransitionData). t.rev ≤ max at (end_of (record_log case))) (untold_at case at) (upto (untold_at case at) (untold_within (selects case.ask.selection) (record_log case) case.ask.selection.resource (is_log case) at (end_of (record_log case))));
  }
    where
      upto : (ts : List TransitionData) → AllByRecursion (λ (t : TransitionData). (at < t.rev) × (t.rev ≤ end_of (record_log case))) ts → AllByRecursion (λ (t : TransitionData). t.rev ≤ max at (end_of (record_log case))) ts
      upto [] all = tt
      upto (t ∷ ts) all = (omega (arith, all.0.1), upto ts all.1)

  -- the moves from one start to a later one are passed over
  pub untold_later : (at later : ℕ) → at ≤ later → drop_upto later (untold_at case at) ≡ untold_at case later
  untold_later at later le = elim (cases_lt (end_of (record_log case)) later) [
    | inl past ↦
        let none : untold_at case later ≡ [] = no_transitions (selects case.ask.selection) (record_log case) case.ask.selection.resource later (end_of (record_log case)) (omega arith) in
        ap (drop_upto later) (sym (append-nil (untold_at case at)))
        ∙ drop_first later (untold_at case at) [] (low later (end_of (record_log case)) (untold_at case at) (omega arith) (within at (end_of (record_log case)))) tt ∙ sym none
    | inr reached ↦
        let joined = transitions_are_joined (selects case.ask.selection) (record_log case) case.ask.selection.resource at later (end_of (record_log case)) le reached in
        ap (drop_upto later) (sym joined)
        ∙ drop_first later (transitions (record_log case) case.ask.selection at later) (untold_at case later)
        (low later later (transitions (record_log case) case.ask.selection at later) (omega arith) (within at later)) (above later (untold_at case later) (within later (end_of (record_log case))))
  ]
    where
      within : (a b : ℕ) → AllByRecursion (λ (t : TransitionData). (a < t.rev) × (t.rev ≤ b)) (transitions (record_log case) case.ask.selection a b)
      within a b = untold_within (selects case.ask.selection) (record_log case) case.ask.selection.resource (is_log case) a b

      low : (top b : ℕ) (ts : List TransitionData) → b ≤ top → AllByRecursion (λ (t : TransitionData). (at < t.rev) × (t.rev ≤ b)) ts → AllByRecursion (λ (t : TransitionData). t.rev ≤ top) ts
      low top b [] small all = tt
      low top b (t ∷ ts) small all = (omega (arith, all.0.1), low top b ts small all.1)

      above : (b : ℕ) (ts : List TransitionData) → AllByRecursion (λ (t : TransitionData). (b < t.rev) × (t.rev ≤ end_of (record_log case))) ts → BeginsAbove b ts
      above b [] all = tt
      above b (t ∷ ts) all = all.0.0

  -- ---- the whole log

  abbrev From : ℕ → List TransitionData
  From n =
      filter_map (transition_by (selects case.ask.selection))
      (events_from case.ask.selection.resource (λ key. fold (row_next case.ask.selection.resource key) (row_in_base [] case.ask.selection.resource key) (take n case.log.items)) (drop n (take (end_of (record_log case) - case.first) case.log.items)))

  base_none : (resource : Resource) (key : List ℕ) → row_in_base [] resource key ≡ None
  base_none resource key = elim (cases_Bool (same_resource resource Pods)) [ inl pods ↦ rw pods refl | inr other ↦ rw other refl ]

  -- below the log's first revision all moves come
  pub untold_before : (at : ℕ) → at < case.first → drop_upto at (untold_at case case.first) ≡ untold_at case at
  untold_before at below =
      let same : case.first - case.first ≡ at - case.first = omega arith in
      drop_first at [] (untold_at case case.first) tt (above (untold_at case case.first) (untold_within (selects case.ask.selection) (record_log case) case.ask.selection.resource (is_log case) case.first (end_of (record_log case))))
      ∙ ap From same
    where
      above : (ts : List TransitionData) → AllByRecursion (λ (t : TransitionData). (case.first < t.rev) × (t.rev ≤ end_of (record_log case))) ts → BeginsAbove at ts
      above [] all = tt
      above (t ∷ ts) all = omega (arith, all.0.0)

  pub untold_from_first : (at : ℕ) → drop_upto at (untold_at case case.first) ≡ untold_at case at
  untold_from_first at = elim (cases_lt at case.first) [ inl below ↦ untold_before at below | inr reached ↦ untold_later case.first at reached ]

  -- ---- the rows at a start

  pub opens : (start : Start) → IsRanged start → (place at : ℕ) → at ≡ case.first + place → place ≤ length case.log.items
      → (rows : BTreeMap (List ℕ) RowData) → Holds rows (standing case.ask.selection.resource (take place case.log.items))
      → IsOpening (record_log case) case.ask.selection start at (rows_told start case.ask.selection (values rows))
  opens (FromState meaning) ranged place at at_is within rows holds =
      let stands : Standing = standing case.ask.selection.resource (take place case.log.items) in
      let here : place ≡ at - case.first = omega (arith, at_is) in (
        record {
          state = values rows;
          is_state = record {
            rising = values_rise rows stands holds;
            exact = λ key.
                row_with-values rows stands key holds
                ∙ ap (λ (n : ℕ). fold (row_next case.ask.selection.resource key) None (take n case.log.items)) here
                ∙ ap (λ (row : Option RowData). fold (row_next case.ask.selection.resource key) row (take (at - case.first) case.log.items)) (sym (base_none case.ask.selection.resource key));
          };
          selected = refl;
        },
        omega (arith, at_is, within),
      )
  opens (FromHere meaning) ranged place at at_is within rows holds = (refl, omega (arith, at_is, within))
  opens (FromRevision revision) ranged place at at_is within rows holds = absurd ranged
