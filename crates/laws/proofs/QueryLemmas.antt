-- The query of a mirror's request, looked up.
use Rattle.std.proofs.Common.{◌≡◌, ℕ, zero, suc, ◌≤◌, Bool, true, false, cond, List, [], ◌∷◌, ◌++◌, Option, Some, None, refl, sym, ap, subst, ◌∙◌, arith, inl, inr, codes, option_and_then, option_map, unwrap_or, is_none, is_some, not, ◌&&◌}
use Rattle.std.specs.Prelude.{decimal, Result, Ok}
use Rattle.std.specs.Bool.{MatchBool}
use Rattle.std.specs.Option.{option_map_or}
use Rattle.std.specs.Result.{result_ok}
use Rattle.kube_meta.specs.Revisions.{RevisionsAreReadBack, revision_of}
use Rattle.kube_meta.specs.declared.resources.Resource.TheVariants.{Pods}
use Rattle.kube_meta.specs.declared.revisions.RevNo.{RevNo}
use Rattle.http_read.specs.Queries.{first_value, unless_empty, is_truth}
use Rattle.line_stream.specs.Requests.{selector_pair, pairs_of}
use Rattle.line_stream.specs.declared.start.Start.{Start}
use Rattle.line_stream.specs.declared.start.Start.TheVariants.{State, Revision}
use Rattle.list_rules.specs.Options.{QueryPairs, parameter_text}
use Rattle.route_req.specs.Asks.{AsksRead, AsksList, AsksWatch, IsSelection, is_watch}
use Rattle.route_req.specs.Outcomes.{SelectionsAgree}
use Rattle.route_req.specs.declared.routing.Routed.{Routed}
use Rattle.route_req.specs.declared.routing.Routed.TheVariants as routed
use Rattle.select_all.specs.Reading.{IsRead}
use Rattle.select_all.specs.declared.selection.Meaning.TheVariants.{MostRecent}
use Rattle.select_all.specs.declared.selection.Selection.{Selection}
use Rattle.watch_rules.specs.Options.{MeansWatch, query_fault, revision_number, timeout_seconds, start_of, initial_events, match_text, is_not_older_than}
use Rattle.watch_rules.specs.Starts.{is_from_state}
use Rattle.watch_rules.specs.declared.ask.WatchAsk.{WatchAsk}
use Rattle.watch_rules.specs.declared.refusal.WatchNo.{WatchNo}
use Rattle.watch_rules.specs.declared.refusal.WatchNo.TheVariants.{BadRevision, MatchWithoutInitial, InitialNeedsNotOlder, BadTimeout}
use Rattle.watch_rules.specs.declared.starts.Start.TheVariants.{FromState, FromRevision}
use Rattle.laws.specs.MirrorQueries.{MaySay, IsMirrorsWatch, MirrorQueriesAskWatches, MirrorWatchesAreTaken}

-- ---- selectors

abbrev selectors : List ℕ → List ℕ → QueryPairs
selectors label field = selector_pair (codes "labelSelector") label ++ selector_pair (codes "fieldSelector") field

-- none of them is another parameter
no_timeout : (label field : List ℕ) → first_value (codes "timeoutSeconds") (selectors label field) ≡ None
no_timeout [] [] = refl
no_timeout [] (c ∷ field) = refl
no_timeout (b ∷ label) [] = refl
no_timeout (b ∷ label) (c ∷ field) = refl

no_revision : (label field : List ℕ) → first_value (codes "resourceVersion") (selectors label field) ≡ None
no_revision [] [] = refl
no_revision [] (c ∷ field) = refl
no_revision (b ∷ label) [] = refl
no_revision (b ∷ label) (c ∷ field) = refl

no_match : (label field : List ℕ) → first_value (codes "resourceVersionMatch") (selectors label field) ≡ None
no_match [] [] = refl
no_match [] (c ∷ field) = refl
no_match (b ∷ label) [] = refl
no_match (b ∷ label) (c ∷ field) = refl

no_initial : (label field : List ℕ) → first_value (codes "sendInitialEvents") (selectors label field) ≡ None
no_initial [] [] = refl
no_initial [] (c ∷ field) = refl
no_initial (b ∷ label) [] = refl
no_initial (b ∷ label) (c ∷ field) = refl

-- and each is told
labels : (label field : List ℕ) → parameter_text (codes "labelSelector") (selectors label field) ≡ label
labels [] [] = refl
labels [] (c ∷ field) = refl
labels (b ∷ label) field = refl

fields : (label field : List ℕ) → parameter_text (codes "fieldSelector") (selectors label field) ≡ field
fields [] [] = refl
fields [] (c ∷ field) = refl
fields (b ∷ label) [] = refl
fields (b ∷ label) (c ∷ field) = refl

-- behind the other parameters too
same_texts : (ns : Option (List ℕ)) (s : Selection) (label field l f : List ℕ) → l ≡ label → f ≡ field → IsRead Pods ns l f s → IsRead Pods ns label field s
same_texts ns s label field l f one two read = subst (λ (z : List ℕ × List ℕ). IsRead Pods ns z.0 z.1 s) {x = (l, f)} {y = (label, field)} (λ i. (one i, two i)) read

selected : (start : Start) (ns : Option (List ℕ)) (label field : List ℕ) (s : Selection) → IsRead Pods ns label field s → IsSelection Pods ns (pairs_of start label field) s
selected State ns label field s read = same_texts ns s _ _ label field (sym (labels label field)) (sym (fields label field)) read
selected (Revision from) ns label field s read = same_texts ns s _ _ label field (sym (labels label field)) (sym (fields label field)) read

read_of : (start : Start) (ns : Option (List ℕ)) (label field : List ℕ) (s : Selection) → IsSelection Pods ns (pairs_of start label field) s → IsRead Pods ns label field s
read_of State ns label field s is = same_texts ns s label field _ _ (labels label field) (fields label field) is
read_of (Revision from) ns label field s is = same_texts ns s label field _ _ (labels label field) (fields label field) is

-- ---- no fault

none_of : (a b c d : Bool) (w x y z : WatchNo) → a ≡ false → b ≡ false → c ≡ false → d ≡ false → cond a (Some w) (cond b (Some x) (cond c (Some y) (cond d (Some z) None))) ≡ None
none_of a b c d w x y z ea eb ec ed = rw (ea, eb, ec, ed) refl

-- the text of a revision has bytes, and is read as it
written : (text : List ℕ) (from : ℕ) → revision_of text ≡ Ok from → unless_empty (Some text) ≡ Some text
written [] from e = absurd (cc)
written (b ∷ text) from e = refl

numbered : (text : List ℕ) (from : ℕ) → revision_of text ≡ Ok from → option_and_then revision_number (unless_empty (Some text)) ≡ Some from
numbered text from e = ap (option_and_then revision_number) (written text from e) ∙ ap result_ok e

some_fault : (text : List ℕ) (from : ℕ) → revision_of text ≡ Ok from → option_map_or (λ (t : List ℕ). is_none (revision_number t)) (unless_empty (Some text)) false ≡ false
some_fault text from e =
    ap (λ (o : Option (List ℕ)). option_map_or (λ (t : List ℕ). is_none (revision_number t)) o false) (written text from e) ∙ ap (λ (r : Result ℕ RevNo). is_none (result_ok r)) e

-- ---- what is meant

module _ (label field : List ℕ) where
  abbrev of_state : QueryPairs
  of_state = pairs_of State label field

  state_unrefused : query_fault of_state ≡ None
  state_unrefused = none_of _ _ _ _ BadRevision MatchWithoutInitial InitialNeedsNotOlder BadTimeout
      (ap (λ (o : Option (List ℕ)). option_map_or (λ (t : List ℕ). is_none (revision_number t)) (unless_empty o) false) (no_revision label field))
      refl refl
      (ap (λ (o : Option (List ℕ)). option_map_or (λ (t : List ℕ). is_none (timeout_seconds t)) (unless_empty o) false) (no_timeout label field))

  state_starts : start_of (Some true) (option_and_then revision_number (unless_empty (first_value (codes "resourceVersion") of_state))) ≡ FromState MostRecent
  state_starts = ap (λ (o : Option (List ℕ)). start_of (Some true) (option_and_then revision_number (unless_empty o))) (no_revision label field)

  unlimited : unwrap_or (option_and_then timeout_seconds (unless_empty (first_value (codes "timeoutSeconds") (selectors label field)))) 0 ≡ 0
  unlimited = ap (λ (o : Option (List ℕ)). unwrap_or (option_and_then timeout_seconds (unless_empty o)) 0) (no_timeout label field)

  module _ (from : ℕ) (some : 1 ≤ from) (reads : revision_of (decimal from) ≡ Ok from) where
    abbrev behind : QueryPairs
    behind = pairs_of (Revision from) label field

    behind_unrefused : query_fault behind ≡ None
    behind_unrefused = none_of _ _ _ _ BadRevision MatchWithoutInitial InitialNeedsNotOlder BadTimeout
        (some_fault (decimal from) from reads)
        (ap (λ (o : Option (List ℕ)). is_some (unless_empty o) && is_none (initial_events behind)) (no_match label field))
        (ap (λ (o : Option (List ℕ)). is_some (option_map is_truth o) && not (option_map_or is_not_older_than (match_text behind) false)) (no_initial label field))
        (ap (λ (o : Option (List ℕ)). option_map_or (λ (t : List ℕ). is_none (timeout_seconds t)) (unless_empty o) false) (no_timeout label field))

    begins_behind : (n : ℕ) → 1 ≤ n → start_of None (Some n) ≡ FromRevision n
    begins_behind zero low = absurd (omega (arith, low))
    begins_behind (suc r) low = refl

    behind_starts : start_of (initial_events behind) (option_and_then revision_number (unless_empty (Some (decimal from)))) ≡ FromRevision from
    behind_starts = (λ i. start_of (option_map is_truth (no_initial label field i)) (numbered (decimal from) from reads i)) ∙ begins_behind from some

    behind_closes : (unwrap_or (initial_events behind) false && true) ≡ false
    behind_closes = ap (λ (o : Option (List ℕ)). unwrap_or (option_map is_truth o) false && true) (no_initial label field)

-- ---- the two ways

watch_of : Selection → (start : Start) → MaySay start → WatchAsk
watch_of s State may = record {
  selection = s;
  start = FromState MostRecent;
  closing = true;
  bookmarks = true;
  timeout_s = 0;
  never_exact = refl;
  closing_a_state = λ closing. refl;
  closing_wanted = λ closing. refl;
  timeout_bounded = omega arith;
}
watch_of s (Revision from) may = record {
  selection = s;
  start = FromRevision from;
  closing = false;
  bookmarks = true;
  timeout_s = 0;
  never_exact = refl;
  closing_a_state = λ closing. absurd (cc);
  closing_wanted = λ closing. absurd (cc);
  timeout_bounded = omega arith;
}

module _ (back : RevisionsAreReadBack) (ns : Option (List ℕ)) (label field : List ℕ) (s : Selection) where
  means : (start : Start) (may : MaySay start) → MeansWatch s (pairs_of start label field) (watch_of s start may)
  unfolding watch_of
  means State may = record {
    unrefused = state_unrefused label field;
    of = refl;
    starts = sym (state_starts label field);
    closes = refl;
    marks = refl;
    ends = sym (unlimited label field);
  }
  means (Revision from) may =
      let reads = back.0 from may.1 in record {
        unrefused = behind_unrefused label field from may.0 reads;
        of = refl;
        starts = sym (behind_starts label field from may.0 reads);
        closes = sym (behind_closes label field from may.0 reads);
        marks = refl;
        ends = sym (unlimited label field);
      }

  asks : (start : Start) (may : MaySay start) → IsRead Pods ns label field s → AsksRead Pods ns (pairs_of start label field) (routed.Watch (watch_of s start may))
  asks State may read = (s, selected State ns label field s read, means State may)
  asks (Revision from) may read = (s, selected (Revision from) ns label field s read, means (Revision from) may)

  is_mirrors : (start : Start) → MaySay start → (other : Selection) (ask : WatchAsk) → other ≡ s → MeansWatch other (pairs_of start label field) ask → IsMirrorsWatch s start ask
  is_mirrors State may other ask same meant = record {
    selection = meant.of ∙ same;
    bookmarks = meant.marks;
    unlimited = meant.ends ∙ unlimited label field;
    starts = (meant.starts ∙ state_starts label field, meant.closes);
  }
  is_mirrors (Revision from) may other ask same meant =
      let reads = back.0 from may.1 in record {
        selection = meant.of ∙ same;
        bookmarks = meant.marks;
        unlimited = meant.ends ∙ unlimited label field;
        starts = (meant.starts ∙ behind_starts label field from may.0 reads, meant.closes ∙ behind_closes label field from may.0 reads);
      }

  asked_watch : (other : Selection) (params : QueryPairs) (answer : Routed) → AsksWatch other params answer → (ask : WatchAsk) × (answer ≡ routed.Watch ask) × MeansWatch other params ask
  asked_watch other params (routed.Watch ask) is = (ask, refl, is)
  asked_watch other params answer is = absurd is

  the_watch : (start : Start) (other : Selection) (answer : Routed) → MatchBool (is_watch (pairs_of start label field)) (AsksWatch other (pairs_of start label field) answer) (AsksList other (pairs_of start label field) answer)
      → AsksWatch other (pairs_of start label field) answer
  the_watch State other answer is = is
  the_watch (Revision from) other answer is = is

  asked : SelectionsAgree → (start : Start) → MaySay start → IsRead Pods ns label field s → (answer : Routed) → AsksRead Pods ns (pairs_of start label field) answer
      → (ask : WatchAsk) × (answer ≡ routed.Watch ask) × IsMirrorsWatch s start ask
  asked agree start may read answer is =
      let found = asked_watch is.0 (pairs_of start label field) answer (the_watch start is.0 answer is.2) in
      let same : is.0 ≡ s = agree Pods ns label field is.0 s (read_of start ns label field is.0 is.1) read in
      (found.0, found.1, is_mirrors start may is.0 found.0 same found.2)

pub queries_ask_watches : RevisionsAreReadBack → SelectionsAgree → MirrorQueriesAskWatches
queries_ask_watches back agree ns label field start s may read =
    ((watch_of s start may, asks back ns label field s start may read), λ answer is. asked back ns label field s agree start may read answer is)

pub watches_are_taken : MirrorWatchesAreTaken
watches_are_taken s State ask from lines is began past =
    record { selection = is.selection; bookmarks = is.bookmarks; start = inr (ap is_from_state is.starts.0, is.starts.1); past = past }
watches_are_taken s (Revision revision) ask from lines is began past =
    record { selection = is.selection; bookmarks = is.bookmarks; start = inl (is.starts.0 ∙ ap FromRevision (sym began)); past = past }
