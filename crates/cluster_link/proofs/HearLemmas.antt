-- What one call that heard leaves of a mirror of a cluster.
use Rattle.std.proofs.Common.{◌≡◌, ℕ, List, [], ◌∷◌, ◌++◌, length, Option, None, Some, Result, Ok, Err, IfOk, refl, sym, ap, subst, inl, inr}
use Rattle.std.specs.Prelude.{◌⊎◌}
use Rattle.line_stream.specs.Answers.{Faults}
use Rattle.line_stream.specs.Readers.{ReaderData, GoesOn, ReadsText, Spends}
use Rattle.line_stream.specs.declared.refusal.LineNo.{LineNo}
use Rattle.mirror_law.specs.Clusters.{with_marks}
use Rattle.mirror_law.specs.Following.{Follows}
use Rattle.mirror_law.specs.Mirrors.{IsMirrorOf}
use Rattle.mirror_log.specs.MirrorLogs.{MirrorLogData}
use Rattle.rev_log.specs.Logs.{Log}
use Rattle.select_all.specs.declared.selection.Selection.{Selection}
use Rattle.watch_lines.specs.Laws.{as_read}
use Rattle.watch_lines.specs.ValueLaws.{TextsTellOneLine}
use Rattle.watch_lines.specs.Values.{ReadsByValue}
use Rattle.watch_lines.specs.declared.peer_line.PeerLine.{PeerLine}
use Rattle.watch_rules.specs.declared.ask.WatchAsk.{WatchAsk}
use Rattle.watch_rules.specs.Bodies.{Line}
use Rattle.cluster_link.specs.Mirroring.{ClusterData, FollowsCluster, IsClusterMirror, mirror_log}
use Rattle.cluster_link.specs.Refusals.{reply_refusal}
use Rattle.cluster_link.specs.Telling.{HearsCluster, HearsLineOf, HearsOnward, HearsTextOf, IsToldAs, LacksLine, TakesPart, TakesWhole, told_fault}
use Rattle.cluster_link.specs.declared.heard.Heard.{Heard}
use Rattle.cluster_link.specs.declared.heard.Heard.TheVariants as heard
use Rattle.cluster_link.specs.declared.refusal.ClusterNo.{ClusterNo}
use Rattle.cluster_link.proofs.FollowLemmas.{Premises, heard_line, part_mirrors, whole_follows}
use Rattle.cluster_link.proofs.LineLemmas.{part_or_same, stays_of}

-- ---- a reading without a bound

spent_none : (old new : Option ℕ) (n : ℕ) → old ≡ None → Spends old n new → new ≡ None
spent_none old new n none spends = let spent : Spends None n new = subst (λ (room : Option ℕ). Spends room n new) none spends in spent

pub goes_unbound : (old new : ReaderData) (bytes : List ℕ) → old.room ≡ None → GoesOn old bytes new → new.room ≡ None
goes_unbound old new bytes none goes = spent_none old.room new.room (length goes.content) none goes.passes.room

-- ---- following over a line

module _ (old new : ClusterData) (text : List ℕ) (one : TextsTellOneLine) (log : Log) (ask : WatchAsk) (log_floor low b from : ℕ) (lines : List Line) (line : Line)
    (on : Premises log ask log_floor low b from lines line (mirror_log old) text) where
  -- the line that was heard, by what the text tells
  is_line : (found : Option PeerLine) (heard : Line) → ReadsByValue old.selection.resource text found → IsToldAs (mirror_log old) found heard → heard ≡ line
  is_line found heard reads is =
      heard_line log ask log_floor low b from lines (mirror_log old) text line heard on (subst (ReadsByValue old.selection.resource text) is.is reads)
      (subst (λ (f : Option PeerLine). told_fault (mirror_log old) f ≡ None) is.is is.no_fault)

  good_line : (found : Option PeerLine) (heard : Line) → heard ≡ line → IsToldAs (mirror_log old) found heard → told_fault (mirror_log old) (Some (as_read line)) ≡ None
  good_line found heard same is =
      subst (λ (l : Line). told_fault (mirror_log old) (Some (as_read l)) ≡ None) same (subst (λ (f : Option PeerLine). told_fault (mirror_log old) f ≡ None) is.is is.no_fault)

  heard_whole : (found : Option PeerLine) (heard : Line) → ReadsByValue old.selection.resource text found → IsToldAs (mirror_log old) found heard → TakesWhole (mirror_log old) heard (mirror_log new)
      → Follows log old.selection b from (with_marks (lines ++ line ∷ [])) new.log new.kept
  heard_whole found heard reads is takes =
      let same : heard ≡ line = is_line found heard reads is in
      whole_follows log ask log_floor low b from lines (mirror_log old) text line on (mirror_log new) (subst (λ (l : Line). TakesWhole (mirror_log old) l (mirror_log new)) same takes) (good_line found heard same is)

  heard_part : (found : Option PeerLine) → ReadsByValue old.selection.resource text found → ((heard : Line) × IsToldAs (mirror_log old) found heard × TakesPart (mirror_log old) heard (mirror_log new)) ⊎ (mirror_log new ≡ mirror_log old)
      → IsMirrorOf log old.selection b new.log
  heard_part found reads (inl (heard, is, takes)) =
      let same : heard ≡ line = is_line found heard reads is in
      part_mirrors log ask log_floor low b from lines (mirror_log old) text line on (mirror_log new) (subst (λ (l : Line). TakesPart (mirror_log old) l (mirror_log new)) same takes) (good_line found heard same is)
  heard_part found reads (inr same) = subst (λ (l : Log). IsMirrorOf log old.selection b l) (sym (ap (λ (m : MirrorLogData). m.log) same)) on.follows.mirrors

  pub follows_text : (result : Result Heard ClusterNo) → HearsTextOf (mirror_log old) text result (mirror_log new)
      → IsMirrorOf log old.selection b new.log × IfOk result (λ heard. FollowsCluster log b from (lines ++ line ∷ []) new)
  follows_text (Ok (heard.Line to)) (found, reads, (h, is, takes, to_is)) =
      let at : Follows log old.selection b from (with_marks (lines ++ line ∷ [])) new.log new.kept = heard_whole found h reads is takes in
      (at.mirrors, subst (λ (s : Selection). Follows log s b from (with_marks (lines ++ line ∷ [])) new.log new.kept) (sym takes.selection) at)
  follows_text (Ok (heard.Ended to)) never = absurd never
  follows_text (Err why) (inl memory) = (subst (λ (l : Log). IsMirrorOf log old.selection b l) (sym (ap (λ (m : MirrorLogData). m.log) memory.1)) on.follows.mirrors, tt)
  follows_text (Err why) (inr (found, reads, hears)) = (heard_part found reads (part_or_same (mirror_log old) (mirror_log new) found why hears), tt)

-- ---- the call, by its fields

abbrev pub view_of : MirrorLogData → ReaderData → Option (Result Heard ClusterNo) → ClusterData
view_of log reading answer =
    record { selection = log.selection; most_gap = log.most_gap; told = log.told; log = log.log; kept = log.kept; reading = reading; answer = answer }

module _ (log : MirrorLogData) (reading : ReaderData) (answer : Option (Result Heard ClusterNo)) (old : ClusterData) (is : view_of log reading answer ≡ old)
    (mirror : IsClusterMirror (view_of log reading answer)) where
  -- ---- where no line was read

  module _ (later : ReaderData) (taken : List ℕ) (goes : GoesOn reading (reading.kept ++ taken) later) where
    pub hears_none : (left : Option (List ℕ)) (fault : LineNo) (why : ClusterNo) → why ≡ reply_refusal fault → Faults later left fault → HearsCluster old taken left (Err why) (view_of log later answer)
    hears_none left fault why why_is faults =
        let none : LacksLine (view_of log reading answer) taken left why (view_of log later answer) = record { rests = refl; fault = fault; why_is = why_is; on = goes; faults = faults } in
        inl (subst (λ (m : ClusterData). LacksLine m taken left why (view_of log later answer)) is none)

  -- ---- where one was

  module _ (one : TextsTellOneLine) (after : MirrorLogData) (later : ReaderData) (taken text : List ℕ) (read : ReadsText reading (reading.kept ++ taken) text later)
      (result : Result Heard ClusterNo) (heard : HearsTextOf log text result after) where
    abbrev before : ClusterData
    before = view_of log reading answer

    abbrev new : ClusterData
    new = view_of after later answer

    line_of : HearsLineOf before taken result new
    line_of = record {
      reads = record {
        text = text;
        read = read;
        follows = λ peer ask log_floor low b from lines line tells cluster asked follows begins.
            follows_text before new text one peer ask log_floor low b from lines line
            (record { one = one; tells = tells; cluster = cluster; asked = asked; follows = follows; begins = begins }) result heard;
      };
      hears = heard;
    }

    pub line_onward : HearsOnward old new
    line_onward =
        let on = stays_of log after text result heard in
        subst (λ (m : ClusterData). HearsOnward m new) is (record { selection = on.selection; most_gap = on.most_gap; answer = refl; more = on.more; log = on.log })

    pub hears_line_of : HearsLineOf old taken result new
    hears_line_of = subst (λ (m : ClusterData). HearsLineOf m taken result new) is line_of

-- what was heard of a line, as the call's answer
pub hears_cluster : (old after : ClusterData) (taken : List ℕ) (left : Option (List ℕ)) (result : Result Heard ClusterNo) → HearsLineOf old taken result after → HearsCluster old taken left result after
hears_cluster old after taken left (Ok (heard.Line to)) hears = hears
hears_cluster old after taken left (Ok (heard.Ended to)) hears = absurd hears.hears
hears_cluster old after taken left (Err why) hears = inr hears

-- ---- the answer that is given again says nothing of what was heard

module _ (old new : ClusterData) (taken : List ℕ) (left : Option (List ℕ)) (again : Option (Result Heard ClusterNo)) where
  abbrev answering : ClusterData
  answering = record new { answer = again }

  line_again : (result : Result Heard ClusterNo) → HearsLineOf old taken result new → HearsLineOf old taken result answering
  line_again result h = record { reads = record { text = h.reads.text; read = h.reads.read; follows = h.reads.follows }; hears = h.hears }

  none_again : (why : ClusterNo) → LacksLine old taken left why new → LacksLine old taken left why answering
  none_again why none = record { rests = none.rests; fault = none.fault; why_is = none.why_is; on = none.on; faults = none.faults }

  pub heard_again : (result : Result Heard ClusterNo) → HearsCluster old taken left result new → HearsCluster old taken left result answering
  heard_again (Ok (heard.Line to)) h = line_again (Ok (heard.Line to)) h
  heard_again (Ok (heard.Ended to)) h = record { rests = h.rests; to_is = h.to_is; on = h.on; over = h.over; whole = h.whole }
  heard_again (Err why) (inl none) = inl (none_again why none)
  heard_again (Err why) (inr h) = inr (line_again (Err why) h)
