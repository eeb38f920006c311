-- A mirror of a cluster commits the revision of an event at once.
use Rattle.std.proofs.Common.{◌≡◌, ℕ, ◌+◌, ◌<◌, ◌≤◌, max, List, [], ◌∷◌, ◌++◌, length, All, refl, sym, ap, ◌∙◌, subst, append_assoc, arith}
use Rattle.std.proofs.lemmas.List.{append-nil, append_cancel_left, length-append}
use Rattle.std.proofs.lemmas.List.Elements.{All-nil}
use Rattle.rev_log.specs.Changes.{RevisionData}
use Rattle.rev_log.specs.Logs.{Log, IsLog, grown, end_of}
use Rattle.select_all.specs.declared.selection.Selection.{Selection}
use Rattle.select_all.specs.Selecting.{selects}
use Rattle.select_all.specs.Streams.{TransitionData, transitions}
use Rattle.select_all.proofs.StreamLaws.{transitions_are_joined}
use Rattle.watch_rules.specs.declared.ask.WatchAsk.{WatchAsk}
use Rattle.watch_rules.specs.Bodies.{Line, Told, Bookmark, Closing, Lost, TellsBody, BeginsBody}
use Rattle.mirror_law.specs.Mirrors.{IsMirrorOf, AreToldBy}
use Rattle.mirror_law.specs.Following.{told_since, upto_in, Follows}
use Rattle.mirror_law.specs.Clusters.{IsCluster, AsksChanges, with_mark, with_marks, MarksGoOn, BodiesTakeMarks, LinesGoOnBehindMarks, FollowingsCommitAtOnce, FollowingsHearAtOnce}
use Rattle.mirror_law.proofs.LineLemmas.{told_since-append, bookmark_told}
use Rattle.mirror_law.proofs.MirrorLemmas.{mirrors_go_on}
use Rattle.mirror_law.proofs.FollowLemmas.{upto_more, within_end, old_rows, one_since}
use Rattle.mirror_law.proofs.RunLemmas.{marked, marked_last, begins_run, run_begins}

-- ---- marks

pub marks_go_on : MarksGoOn
marks_go_on [] line = append-nil (with_mark line)
marks_go_on (first ∷ lines) line =
    ap (λ (l : List Line). with_mark first ++ l) (marks_go_on lines line) ∙ sym (append_assoc (with_mark first) (with_marks lines) (with_mark line))

-- the first lines of a body's beginning are one
pub first_lines : (peer : Log) (log_floor low : ℕ) (ask : WatchAsk) (from : ℕ) (lines more : List Line) → BeginsBody peer log_floor low ask from (lines ++ more) → BeginsBody peer log_floor low ask from lines
first_lines peer log_floor low ask from lines more begins =
    (more ++ begins.0, begins.1, subst (λ (l : List Line). TellsBody peer log_floor low ask from l begins.1) (append_assoc lines more begins.0) begins.2)

of_ask : (peer : Log) (s : Selection) (ask : WatchAsk) → ask.selection ≡ s → IsCluster peer s.resource → IsCluster peer ask.selection.resource
of_ask peer s ask of cluster = subst (λ (u : Selection). IsCluster peer u.resource) (sym of) cluster

pub bodies_take_marks : BodiesTakeMarks
bodies_take_marks peer log_floor low from s ask lines cluster asks begins =
    let here : IsCluster peer ask.selection.resource = of_ask peer s ask asks.selection cluster in
    run_begins peer log_floor low from ask here asks.start asks.bookmarks (with_marks lines)
    (marked peer log_floor low ask.selection here from lines (begins_run peer log_floor low from ask here asks.start lines begins))

-- a line stands first with its mark
mark_behind : (line : Line) → (rest : List Line) × (with_mark line ≡ line ∷ rest)
mark_behind (Told t) = (Bookmark t.rev ∷ [], refl)
mark_behind (Bookmark at) = ([], refl)
mark_behind (Closing at) = ([], refl)
mark_behind (Lost at floor) = ([], refl)

pub lines_go_on_behind_marks : LinesGoOnBehindMarks
lines_go_on_behind_marks peer log_floor low from s ask lines line cluster asks begins =
    let rest = mark_behind line in
    let all : with_marks (lines ++ line ∷ []) ≡ (with_marks lines ++ line ∷ []) ++ rest.0 =
    marks_go_on lines line ∙ ap (λ (l : List Line). with_marks lines ++ l) rest.1 ∙ sym (append_assoc (with_marks lines) (line ∷ []) rest.0) in
    first_lines peer log_floor low ask from (with_marks lines ++ line ∷ []) rest.0
    (subst (BeginsBody peer log_floor low ask from) all (bodies_take_marks peer log_floor low from s ask (lines ++ line ∷ []) cluster asks begins))

-- ---- an event is committed at once

module _ (peer : Log) (log_floor low b from : ℕ) (ask : WatchAsk) (lines : List Line) (m : Log) (kept : List TransitionData) (t : TransitionData)
    (cluster : IsCluster peer ask.selection.resource) (asks : AsksChanges ask.selection ask from) (follows : Follows peer ask.selection b from lines m kept)
    (begins : BeginsBody peer log_floor low ask from (lines ++ Told t ∷ [])) (above : end_of m < t.rev) where
  -- with the event all is told up to its revision
  told_all : (t.rev ≤ end_of peer) × (told_since from (lines ++ Told t ∷ []) ≡ transitions peer ask.selection from t.rev)
  told_all =
      let marks : BeginsBody peer log_floor low ask from ((lines ++ Told t ∷ []) ++ Bookmark t.rev ∷ []) =
      run_begins peer log_floor low from ask cluster asks.start asks.bookmarks ((lines ++ Told t ∷ []) ++ Bookmark t.rev ∷ [])
      (marked_last peer log_floor low ask.selection cluster from lines t (begins_run peer log_floor low from ask cluster asks.start (lines ++ Told t ∷ []) begins)) in
      let all : List Line = (lines ++ Told t ∷ []) ++ Bookmark t.rev ∷ marks.0 in
      let tells : TellsBody peer log_floor low ask from all marks.1 =
      subst (λ (l : List Line). TellsBody peer log_floor low ask from l marks.1) (append_assoc (lines ++ Told t ∷ []) (Bookmark t.rev ∷ []) marks.0) marks.2 in
      let found = bookmark_told peer log_floor low from ask cluster.log (lines ++ Told t ∷ []) marks.0 marks.1 t.rev tells
      (old_rows peer log_floor low b from ask lines m kept cluster.log follows all marks.1 tells) in
      (found.1, found.2)

  -- behind the end stand what is kept and the event
  behind : kept ++ t ∷ [] ≡ transitions peer ask.selection (end_of m) t.rev
  behind =
      let first : List TransitionData = transitions peer ask.selection from (end_of m) in
      append_cancel_left first (kept ++ t ∷ []) (transitions peer ask.selection (end_of m) t.rev)
      (sym (append_assoc first kept (t ∷ []))
      ∙ ap (λ (l : List TransitionData). l ++ t ∷ []) (sym follows.told)
      ∙ ap (λ (l : List TransitionData). told_since from lines ++ l) (sym (one_since peer log_floor low b from ask lines m kept cluster.log follows t above))
      ∙ sym (told_since-append from lines (Told t ∷ []))
      ∙ told_all.1
      ∙ sym (transitions_are_joined (selects ask.selection) peer ask.selection.resource from (end_of m) t.rev (within_end peer log_floor low b from ask lines m kept cluster.log follows) (omega (arith, above))))

  commits : (more : List RevisionData) → AreToldBy ask.selection.resource (kept ++ t ∷ []) (end_of m) more → end_of (grown m more) ≤ t.rev → IsMirrorOf peer ask.selection b (grown m more)
  commits more are within =
      mirrors_go_on (selects ask.selection) peer ask.selection.resource b t.rev m more cluster.log follows.mirrors (omega (arith, length-append m.revisions more, within)) told_all.0
      (subst (λ (l : List TransitionData). AreToldBy ask.selection.resource l (end_of m) more) behind are)

  hears : (more : List RevisionData) → AreToldBy ask.selection.resource (kept ++ t ∷ []) (end_of m) more → end_of (grown m more) ≡ t.rev
      → Follows peer ask.selection b from ((lines ++ Told t ∷ []) ++ Bookmark t.rev ∷ []) (grown m more) []
  hears more are end = record {
    mirrors = commits more are (omega (arith, end));
    begun = follows.begun;
    reached = omega (arith, end, upto_more from (lines ++ Told t ∷ []) (Bookmark t.rev), upto_more from lines (Told t), follows.reached, above);
    told = told_since-append from (lines ++ Told t ∷ []) (Bookmark t.rev ∷ []) ∙ append-nil (told_since from (lines ++ Told t ∷ [])) ∙ told_all.1
        ∙ ap (λ (n : ℕ). transitions peer ask.selection from n) (sym end)
        ∙ sym (append-nil (transitions peer ask.selection from (end_of (grown m more))));
    next = All-nil (λ u. u.rev ≡ end_of (grown m more) + 1);
  }

-- ---- the laws

asks_own : (s : Selection) (ask : WatchAsk) (from : ℕ) → AsksChanges s ask from → AsksChanges ask.selection ask from
asks_own s ask from asks = record { selection = refl; bookmarks = asks.bookmarks; start = asks.start }

pub followings_commit_at_once : FollowingsCommitAtOnce
followings_commit_at_once peer log_floor low b from s ask lines m kept t more cluster asks follows begins onward are within =
    subst (λ (u : Selection). IsMirrorOf peer u b (grown m more)) asks.selection
    (commits peer log_floor low b from ask lines m kept t (of_ask peer s ask asks.selection cluster) (asks_own s ask from asks)
    (subst (λ (u : Selection). Follows peer u b from lines m kept) (sym asks.selection) follows) begins onward more
    (subst (λ (u : Selection). AreToldBy u.resource (kept ++ t ∷ []) (end_of m) more) (sym asks.selection) are) within)

pub followings_hear_at_once : FollowingsHearAtOnce
followings_hear_at_once peer log_floor low b from s ask lines m kept t more cluster asks follows begins onward are end =
    subst (λ (l : List Line). Follows peer s b from l (grown m more) []) (append_assoc lines (Told t ∷ []) (Bookmark t.rev ∷ []))
    (subst (λ (u : Selection). Follows peer u b from ((lines ++ Told t ∷ []) ++ Bookmark t.rev ∷ []) (grown m more) []) asks.selection
    (hears peer log_floor low b from ask lines m kept t (of_ask peer s ask asks.selection cluster) (asks_own s ask from asks)
    (subst (λ (u : Selection). Follows peer u b from lines m kept) (sym asks.selection) follows) begins onward more
    (subst (λ (u : Selection). AreToldBy u.resource (kept ++ t ∷ []) (end_of m) more) (sym asks.selection) are) end))
