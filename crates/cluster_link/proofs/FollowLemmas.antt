-- The next line of a cluster's body, by what its text tells.
use Rattle.std.proofs.Common.{◌≡◌, ℕ, List, [], ◌∷◌, ◌++◌, None, Some, refl, sym, ap, ◌∙◌, subst, arith}
use Rattle.std.specs.Prelude.{IsTrue, not, ◌||◌}
use Rattle.std.specs.List.{list_any}
use Rattle.rev_log.specs.Changes.{RevisionData}
use Rattle.rev_log.specs.Logs.{Log, end_of, grown}
use Rattle.select_all.specs.Streams.{TransitionData}
use Rattle.watch_rules.specs.declared.ask.WatchAsk.{WatchAsk}
use Rattle.watch_rules.specs.declared.starts.Start.{Start}
use Rattle.watch_rules.specs.Starts.{is_from_state}
use Rattle.watch_rules.specs.Bodies.{Line, Told, Bookmark, Closing, Lost, BeginsBody}
use Rattle.watch_lines.specs.Laws.{as_read}
use Rattle.watch_lines.specs.ValueLaws.{TextsTellOneLine}
use Rattle.watch_lines.specs.Values.{TellsByValue}
use Rattle.watch_lines.specs.declared.peer_line.PeerLine.TheVariants as peer
use Rattle.mirror_law.specs.Clusters.{IsCluster, AsksChanges, with_mark, with_marks}
use Rattle.mirror_law.specs.Following.{Follows}
use Rattle.mirror_law.specs.Mirrors.{IsMirrorOf, AreToldBy}
use Rattle.mirror_law.specs.Taking.{IsTaken, IsPastOpening, is_closing}
use Rattle.mirror_law.proofs.FollowLemmas.{followings_commit, followings_mark}
use Rattle.mirror_law.proofs.OnceLemmas.{marks_go_on, lines_go_on_behind_marks, followings_commit_at_once, followings_hear_at_once}
use Rattle.mirror_law.proofs.TakenLemmas.{lawful_lines_are_taken}
use Rattle.mirror_log.specs.MirrorLogs.{MirrorLogData}
use Rattle.cluster_link.specs.Telling.{told_fault, TakesWhole, TakesPart}

-- the premises of a line, of which the text was read
pub record Premises (log : Log) (ask : WatchAsk) (log_floor low b from : ℕ) (lines : List Line) (line : Line) (m : MirrorLogData) (text : List ℕ) : Type 0 where
  pub one : TextsTellOneLine
  pub tells : TellsByValue m.selection.resource text (as_read line)
  pub cluster : IsCluster log m.selection.resource
  pub asked : AsksChanges m.selection ask from
  pub follows : Follows log m.selection b from (with_marks lines) m.log m.kept
  pub begins : BeginsBody log log_floor low ask from (lines ++ line ∷ [])

-- ---- which line it is

one_event : (t u : TransitionData) → peer.Told u.kind u.obj u.rev ≡ peer.Told t.kind t.obj t.rev → u ≡ t
one_event t u same =
    let kind_is : u.kind ≡ t.kind = cc in
    let obj_is : u.obj ≡ t.obj = cc in
    let rev_is : u.rev ≡ t.rev = cc in
    λ i. record { kind = kind_is i; obj = obj_is i; rev = rev_is i }

-- a line with which nothing is wrong is the next one
same_line : (m : MirrorLogData) (line heard : Line) → IsTaken m.selection m.log m.kept line → told_fault m (Some (as_read heard)) ≡ None → as_read heard ≡ as_read line → heard ≡ line
same_line m (Told t) (Told u) taken good same = ap Told (one_event t u same)
same_line m (Told t) (Bookmark at) taken good same = absurd (cc)
same_line m (Told t) (Closing at) taken good same = absurd (cc)
same_line m (Told t) (Lost at floor) taken good same = absurd (cc)
same_line m (Bookmark at) (Told u) taken good same = absurd (cc)
same_line m (Bookmark at) (Bookmark mark) taken good same = let is : mark ≡ at = cc in ap Bookmark is
same_line m (Bookmark at) (Closing mark) taken good same = absurd (cc)
same_line m (Bookmark at) (Lost mark floor) taken good same = absurd (cc)
same_line m (Closing at) heard taken good same = absurd taken
same_line m (Lost at floor) (Told u) taken good same = absurd (cc)
same_line m (Lost at floor) (Bookmark mark) taken good same = absurd (cc)
same_line m (Lost at floor) (Closing mark) taken good same = absurd (cc)
same_line m (Lost at floor) (Lost mark other) taken good same = absurd (cc)

module _ (log : Log) (ask : WatchAsk) (log_floor low b from : ℕ) (lines : List Line) (m : MirrorLogData) (text : List ℕ) where
  abbrev pub On : Line → Type 0
  On line = Premises log ask log_floor low b from lines line m text

  pub next : (line : Line) → On line → BeginsBody log log_floor low ask from (with_marks lines ++ line ∷ [])
  next line h = lines_go_on_behind_marks log log_floor low from m.selection ask lines line h.cluster h.asked h.begins

  past : (line : Line) → On line → IsPastOpening ask (with_marks lines)
  past line h = subst (λ (start : Start). IsTrue (not (is_from_state start) || list_any is_closing (with_marks lines))) (sym h.asked.start) refl

  pub taken_line : (line : Line) → On line → IsTaken m.selection m.log m.kept line
  taken_line line h =
      lawful_lines_are_taken log log_floor low b from m.selection ask (with_marks lines) m.log m.kept line h.cluster.log h.asked.selection h.follows (past line h) (next line h)

  -- the line that was heard is that
  pub heard_line : (line heard : Line) → On line → TellsByValue m.selection.resource text (as_read heard) → told_fault m (Some (as_read heard)) ≡ None → heard ≡ line
  heard_line line heard h tells good = same_line m line heard (taken_line line h) good (h.one m.selection.resource text (as_read heard) (as_read line) tells h.tells)

  -- the lines with it, and what is so by other names
  behind : (line : Line) (grew after : Log) (kept : List TransitionData) → after ≡ grew → kept ≡ [] → Follows log m.selection b from (with_marks lines ++ with_mark line) grew []
      → Follows log m.selection b from (with_marks (lines ++ line ∷ [])) after kept
  behind line grew after kept log_is kept_is at =
      subst (λ (k : List TransitionData). Follows log m.selection b from (with_marks (lines ++ line ∷ [])) after k) (sym kept_is)
      (subst (λ (l : Log). Follows log m.selection b from (with_marks (lines ++ line ∷ [])) l []) (sym log_is)
      (subst (λ (ls : List Line). Follows log m.selection b from ls grew []) (sym (marks_go_on lines line)) at))

  -- it was taken whole
  pub whole_follows : (line : Line) → On line → (new : MirrorLogData) → TakesWhole m line new → told_fault m (Some (as_read line)) ≡ None → Follows log m.selection b from (with_marks (lines ++ line ∷ [])) new.log new.kept
  whole_follows (Told t) h new takes good =
      behind (Told t) (grown m.log takes.grows.more) new.log new.kept takes.grows.log_is takes.kept
      (followings_hear_at_once log log_floor low b from m.selection ask (with_marks lines) m.log m.kept t takes.grows.more h.cluster h.asked h.follows (next (Told t) h) (taken_line (Told t) h).above
      takes.grows.told_by (sym (ap end_of takes.grows.log_is) ∙ takes.reached))
  whole_follows (Bookmark at) h new takes good =
      behind (Bookmark at) (grown m.log takes.grows.more) new.log new.kept takes.grows.log_is takes.kept
      (followings_mark log log_floor low b from m.selection ask (with_marks lines) m.log m.kept at takes.grows.more h.cluster.log h.asked.selection h.follows (next (Bookmark at) h) (taken_line (Bookmark at) h).onward
      takes.grows.told_by (sym (ap end_of takes.grows.log_is) ∙ takes.reached))
  whole_follows (Closing at) h new takes good = absurd (taken_line (Closing at) h)
  whole_follows (Lost at floor) h new takes good = absurd (cc)

  -- it was taken in part
  pub part_mirrors : (line : Line) → On line → (new : MirrorLogData) → TakesPart m line new → told_fault m (Some (as_read line)) ≡ None → IsMirrorOf log m.selection b new.log
  part_mirrors (Told t) h new takes good =
      subst (λ (l : Log). IsMirrorOf log m.selection b l) (sym takes.grows.log_is)
      (followings_commit_at_once log log_floor low b from m.selection ask (with_marks lines) m.log m.kept t takes.grows.more h.cluster h.asked h.follows (next (Told t) h) (taken_line (Told t) h).above
      takes.grows.told_by (omega (arith, ap end_of takes.grows.log_is, takes.within)))
  part_mirrors (Bookmark at) h new takes good =
      subst (λ (l : Log). IsMirrorOf log m.selection b l) (sym takes.grows.log_is)
      (followings_commit log log_floor low b from m.selection ask (with_marks lines) m.log m.kept (Bookmark at) takes.grows.more h.cluster.log h.asked.selection h.follows (next (Bookmark at) h) (taken_line (Bookmark at) h).onward
      takes.grows.told_by (omega (arith, ap end_of takes.grows.log_is, takes.within)))
  part_mirrors (Closing at) h new takes good = absurd (taken_line (Closing at) h)
  part_mirrors (Lost at floor) h new takes good = absurd (cc)
