-- What a mirror hears of a line that was read.
use Rattle.std.proofs.Common.{◌≡◌, ℕ, List, [], ◌∷◌, ◌++◌, Option, None, Some, Result, Ok, Err, sym, ap, ◌∙◌, subst, inl, inr, arith}
use Rattle.std.specs.Prelude.{option_map}
use Rattle.kube_meta.specs.declared.resources.Resource.TheVariants.{Pods}
use Rattle.line_stream.specs.Readers.{ReadsText}
use Rattle.mirror_log.specs.declared.take_refusal.TakeNo.{TakeNo}
use Rattle.mirror_log.specs.declared.take_refusal.TakeNo.TheVariants as take
use Rattle.mirror_log.specs.Faults.{event_fault, mark_fault}
use Rattle.mirror_law.specs.Following.{Follows, kept_after}
use Rattle.mirror_law.specs.Mirrors.{IsMirrorOf}
use Rattle.mirror_link.specs.Hearing.{Hears, HearsLine, HearsSome, HasBadLine, FollowsIn}
use Rattle.mirror_link.specs.Lines.{HearsText, TakesRead, TakesSomeRead, line_fault}
use Rattle.mirror_link.specs.Refusals.{taking_refusal}
use Rattle.mirror_link.specs.Views.{MirrorData, IsMirror, log_part}
use Rattle.mirror_link.specs.declared.heard.Heard.{Heard}
use Rattle.mirror_link.specs.declared.heard.Heard.TheVariants as heard
use Rattle.mirror_link.proofs.FollowLemmas.{Hears as Premises, event_follows, event_mirrors, mark_follows, mark_mirrors}
use Rattle.mirror_link.specs.declared.link_refusal.LinkNo.{LinkNo}
use Rattle.mirror_link.specs.declared.link_refusal.LinkNo.TheVariants as no
use Rattle.mirror_log.specs.MirrorLogs.{MirrorLogData, Takes, TakesSome}
use Rattle.rev_log.specs.Logs.{Log, end_of, grown}
use Rattle.select_all.specs.declared.selection.Selection.{Selection}
use Rattle.select_all.specs.Streams.{TransitionData}
use Rattle.watch_lines.specs.Laws.{LinesReadBack, as_read}
use Rattle.watch_lines.specs.Lines.{IsPeerLine, ReadsPeerLine}
use Rattle.watch_lines.specs.declared.peer_line.PeerLine.{PeerLine}
use Rattle.watch_lines.specs.declared.peer_line.PeerLine.TheVariants as peer
use Rattle.watch_rules.specs.declared.ask.WatchAsk.{WatchAsk}
use Rattle.watch_rules.specs.Bodies.{Line, Told, Bookmark, Closing, Lost}

-- ---- what may be wrong with a line

-- a refusal of a line is one of four
abbrev pub IsOfLine : LinkNo → Type 0
IsOfLine no.BadLine = Unit {0}
IsOfLine (no.Order last got) = Unit {0}
IsOfLine (no.Gap last got) = Unit {0}
IsOfLine (no.Told code) = Unit {0}
IsOfLine why = ⊥

taken : (fault : TakeNo) → IsOfLine (taking_refusal fault)
taken take.BadLine = tt
taken (take.Order last got) = tt
taken (take.Gap last got) = tt

some_of : (a b : LinkNo) → Some a ≡ Some b → a ≡ b
some_of a b same = cc

of_fault : (fault : Option TakeNo) (why : LinkNo) → option_map taking_refusal fault ≡ Some why → IsOfLine why
of_fault None why is = absurd (cc)
of_fault (Some fault) why is = subst IsOfLine (some_of (taking_refusal fault) why is) (taken fault)

pub of_line : (m : MirrorLogData) (found : Option PeerLine) (why : LinkNo) → line_fault m found ≡ Some why → IsOfLine why
of_line m None why is = subst IsOfLine (some_of no.BadLine why is) tt
of_line m (Some (peer.Told kind obj rev)) why is = of_fault (event_fault m.selection m.most_gap m.log m.kept (record { kind = kind; obj = obj; rev = rev })) why is
of_line m (Some (peer.Bookmark at closing)) why is = of_fault (mark_fault m.most_gap (end_of m.log) m.kept at closing) why is
of_line m (Some (peer.Error code)) why is = subst IsOfLine (some_of (no.Told code) why is) tt

-- ---- following over a line

-- what a log and what is kept follow, their equals do
pub follows_as : (peer : Log) (s : Selection) (b from : ℕ) (lines : List Line) (m : Log) (kept : List TransitionData) (of : Selection) (log : Log) (lines_kept : List TransitionData)
    → of ≡ s → log ≡ m → lines_kept ≡ kept → Follows peer s b from lines m kept → Follows peer of b from lines log lines_kept
follows_as peer s b from lines m kept of log lines_kept selection_is log_is kept_is at =
    subst (λ (u : Selection). Follows peer u b from lines log lines_kept) (sym selection_is)
    (subst (λ (l : Log). Follows peer s b from lines l lines_kept) (sym log_is) (subst (λ (k : List TransitionData). Follows peer s b from lines m k) (sym kept_is) at))

module _ (old new : MirrorData) (text : List ℕ) (back : LinesReadBack) (mirror : IsMirror old) where
  -- the premises on the peer
  abbrev pub Met : Log → WatchAsk → ℕ → ℕ → ℕ → ℕ → List Line → Line → Type 0
  Met log ask log_floor low b from lines line = Premises log ask log_floor low b from lines line old.selection old.log old.kept text

  follows_whole : (log : Log) (ask : WatchAsk) (log_floor low b from : ℕ) (lines : List Line) (line heard : Line) → Met log ask log_floor low b from lines line
      → IsPeerLine Pods text (as_read heard) → line_fault (log_part old) (Some (as_read heard)) ≡ None → Takes (log_part old) heard (log_part new) → FollowsIn log b from (lines ++ line ∷ []) new
  follows_whole log ask log_floor low b from lines line (Told t) met read good takes =
      let at : Follows log old.selection b from (lines ++ line ∷ []) (grown old.log takes.grows.more) (kept_after old.kept (Told t)) =
      event_follows log ask log_floor low b from lines old.selection old.log old.kept text t.kind t.obj t.rev takes.grows.more line met read takes.grows.told_by (sym (ap end_of takes.grows.log_is) ∙ takes.reached) in
      follows_as log old.selection b from (lines ++ line ∷ []) (grown old.log takes.grows.more) (kept_after old.kept (Told t)) new.selection new.log new.kept takes.selection takes.grows.log_is takes.kept at
  follows_whole log ask log_floor low b from lines line (Bookmark at) met read good takes =
      let here : Follows log old.selection b from (lines ++ line ∷ []) (grown old.log takes.grows.more) (kept_after old.kept (Bookmark at)) =
      mark_follows log ask log_floor low b from lines old.selection old.log old.kept text at takes.grows.more line met read takes.grows.told_by (sym (ap end_of takes.grows.log_is) ∙ takes.reached) in
      follows_as log old.selection b from (lines ++ line ∷ []) (grown old.log takes.grows.more) (kept_after old.kept (Bookmark at)) new.selection new.log new.kept takes.selection takes.grows.log_is takes.kept here
  follows_whole log ask log_floor low b from lines line (Closing at) met read good takes = absurd (cc)
  follows_whole log ask log_floor low b from lines line (Lost at floor) met read good takes = absurd (cc)

  mirrors_some : (log : Log) (ask : WatchAsk) (log_floor low b from : ℕ) (lines : List Line) (line heard : Line) → Met log ask log_floor low b from lines line
      → IsPeerLine Pods text (as_read heard) → line_fault (log_part old) (Some (as_read heard)) ≡ None → TakesSome (log_part old) heard (log_part new) → IsMirrorOf log old.selection b new.log
  mirrors_some log ask log_floor low b from lines line (Told t) met read good takes =
      subst (λ (l : Log). IsMirrorOf log old.selection b l) (sym takes.grows.log_is)
      (event_mirrors log ask log_floor low b from lines old.selection old.log old.kept text t.kind t.obj t.rev takes.grows.more line met read takes.grows.told_by (omega (arith, ap end_of takes.grows.log_is, takes.within)))
  mirrors_some log ask log_floor low b from lines line (Bookmark at) met read good takes =
      subst (λ (l : Log). IsMirrorOf log old.selection b l) (sym takes.grows.log_is)
      (mark_mirrors log ask log_floor low b from lines old.selection old.log old.kept text at takes.grows.more line met read takes.grows.told_by (omega (arith, ap end_of takes.grows.log_is, takes.within)))
  mirrors_some log ask log_floor low b from lines line (Closing at) met read good takes = absurd (cc)
  mirrors_some log ask log_floor low b from lines line (Lost at floor) met read good takes = absurd (cc)

  module _ (taken : List ℕ) (left : Option (List ℕ)) (read : ReadsText old.reading (old.reading.kept ++ taken) text new.reading) where
    whole : (to : ℕ) (found : Option PeerLine) → ReadsPeerLine Pods text found → (takes : TakesRead (log_part old) found (log_part new)) → to ≡ end_of new.log → HearsLine old taken to new
    whole to found reads takes to_is =
        let is_line : IsPeerLine Pods text (as_read takes.line) = subst (ReadsPeerLine Pods text) takes.is reads in
        let good : line_fault (log_part old) (Some (as_read takes.line)) ≡ None = subst (λ (f : Option PeerLine). line_fault (log_part old) f ≡ None) takes.is takes.no_fault in
        record {
          reads = record {
            text = text;
            read = read;
            follows = λ log ask log_floor low b from lines line is of asked follows begins.
                let met : Met log ask log_floor low b from lines line = record { reads = back; pods = mirror.pods; some = mirror.some; is = is; good = of; asked = asked; follows = follows; begins = begins } in
                let on = follows_whole log ask log_floor low b from lines line takes.line met is_line good takes.takes in
                (subst (λ (s : Selection). IsMirrorOf log s b new.log) takes.takes.selection on.mirrors, on);
          };
          line = takes.line;
          is = record { reads = is_line; no_fault = good };
          takes = takes.takes;
          to_is = to_is;
        }

    partly : (why : LinkNo) (found : Option PeerLine) → ReadsPeerLine Pods text found → (takes : TakesSomeRead (log_part old) found (log_part new)) → HearsSome old taken why new
    partly why found reads takes =
        let is_line : IsPeerLine Pods text (as_read takes.line) = subst (ReadsPeerLine Pods text) takes.is reads in
        let good : line_fault (log_part old) (Some (as_read takes.line)) ≡ None = subst (λ (f : Option PeerLine). line_fault (log_part old) f ≡ None) takes.is takes.no_fault in
        record {
          reads = record {
            text = text;
            read = read;
            follows = λ log ask log_floor low b from lines line is of asked follows begins.
                let met : Met log ask log_floor low b from lines line = record { reads = back; pods = mirror.pods; some = mirror.some; is = is; good = of; asked = asked; follows = follows; begins = begins } in
                (mirrors_some log ask log_floor low b from lines line takes.line met is_line good takes.takes, tt);
          };
          line = takes.line;
          is = record { reads = is_line; no_fault = good };
          takes = takes.takes;
        }

    refused : (why : LinkNo) (found : Option PeerLine) → ReadsPeerLine Pods text found → line_fault (log_part old) found ≡ Some why → HasBadLine old taken why new
    refused why found reads fault = record { text = text; read = read; found = found; reads = reads; fault = fault }

    -- what is heard of the line
    pub hears_text : (result : Result Heard LinkNo) → HearsText (log_part old) text result (log_part new) → Hears old taken left result new
    hears_text (Ok (heard.Line to)) (found, reads, (takes, to_is)) = whole to found reads takes to_is
    hears_text (Ok (heard.Ended to)) never = absurd never
    hears_text (Err (no.Passed to at)) (inr (found, reads, (takes, to_is, at_is, above))) = (partly (no.Passed to at) found reads takes, to_is, at_is, above)
    hears_text (Err no.Memory) (inl memory) = inl (memory.1, inr (record { text = text; read = read }))
    hears_text (Err no.Memory) (inr (found, reads, takes)) = inr (partly no.Memory found reads takes)
    hears_text (Err why) (inl memory) = absurd (cc (memory.0))
    hears_text (Err no.BadLine) (inr (found, reads, hears)) = (hears.1, inr (refused no.BadLine found reads hears.0))
    hears_text (Err (no.Order last got)) (inr (found, reads, hears)) = (hears.1, inr (refused (no.Order last got) found reads hears.0))
    hears_text (Err (no.Gap last got)) (inr (found, reads, hears)) = (hears.1, inr (refused (no.Gap last got) found reads hears.0))
    hears_text (Err (no.Told code)) (inr (found, reads, hears)) = (hears.1, inr (refused (no.Told code) found reads hears.0))
    hears_text (Err why) (inr (found, reads, hears)) = absurd (of_line (log_part old) found why hears.0)
