-- A line's text, as a mirror's log hears it.
use Rattle.std.proofs.Common.{◌≡◌, ℕ, List, [], Bool, Option, None, Some, Result, Ok, Err, true, false, refl, sym, ap, ◌∙◌, inl, inr}
use Rattle.std.specs.Prelude.{◌⊎◌, option_map, IfSome}
use Rattle.std.proofs.lemmas.List.{append-nil}
use Rattle.kube_meta.specs.declared.resources.Resource.{Resource}
use Rattle.mirror_log.specs.declared.take_refusal.TakeNo.{TakeNo}
use Rattle.mirror_log.specs.declared.take_refusal.TakeNo.TheVariants as take
use Rattle.mirror_log.specs.Faults.{mark_fault}
use Rattle.mirror_log.specs.MirrorLogs.{MirrorLogData, Hears, HearsAlone, TakesAlone, TakesSomeAlone, Takes, TakesSome}
use Rattle.mirror_log.specs.declared.refusal.MirrorNo.{MirrorNo}
use Rattle.mirror_log.specs.declared.refusal.MirrorNo.TheVariants as mirror
use Rattle.rev_log.specs.Changes.{RevisionData}
use Rattle.rev_log.specs.Logs.{Log, end_of, grown}
use Rattle.select_all.specs.Streams.{TransitionData}
use Rattle.watch_lines.specs.Values.{ReadsByValue}
use Rattle.watch_lines.specs.ValueLaws.{WhatIsToldIsKept}
use Rattle.watch_lines.specs.declared.peer_line.PeerLine.{PeerLine}
use Rattle.watch_lines.specs.declared.peer_line.PeerLine.TheVariants as peer
use Rattle.watch_rules.specs.Bodies.{Line, Told, Bookmark}
use Rattle.cluster_link.specs.Refusals.{take_refusal, log_refusal}
use Rattle.cluster_link.specs.Telling.{HearsTextOf, HearsTold, IsInBounds, IsToldAs, TakesPart, TakesWhole, told_fault}
use Rattle.cluster_link.specs.declared.heard.Heard.{Heard}
use Rattle.cluster_link.specs.declared.heard.Heard.TheVariants as heard
use Rattle.cluster_link.specs.declared.refusal.ClusterNo.{ClusterNo}
use Rattle.cluster_link.specs.declared.refusal.ClusterNo.TheVariants as no

-- what is read of a text is within bounds
pub in_bounds : (resource : Resource) → WhatIsToldIsKept → (text : List ℕ) (found : Option PeerLine) → ReadsByValue resource text found → IfSome found IsInBounds
in_bounds resource kept text None reads = tt
in_bounds resource kept text (Some (peer.Told kind obj rev)) reads = (kept resource text (peer.Told kind obj rev) reads).1.1
in_bounds resource kept text (Some (peer.Bookmark at closing)) reads = (kept resource text (peer.Bookmark at closing) reads).1
in_bounds resource kept text (Some (peer.Error code)) reads = tt

-- the answer of a mirror's log, as a mirror's
abbrev pub answer_as : ℕ → Result ℕ MirrorNo → Result ℕ ClusterNo
answer_as end (Ok to) = Ok to
answer_as end (Err why) = Err (log_refusal end why)

-- a refusal by where the log ends
pub refused_as : (answer : ClusterNo) (why : MirrorNo) (to end : ℕ) → answer ≡ log_refusal to why → to ≡ end → log_refusal end why ≡ answer
refused_as answer why to end is same = sym (is ∙ ap (λ n. log_refusal n why) same)

refused : (old new : MirrorLogData) (found : Option PeerLine) (fault : Option TakeNo) (why : TakeNo) → told_fault old found ≡ option_map take_refusal fault → fault ≡ Some why → new ≡ old
    → HearsTold old found (Err (take_refusal why)) new
refused old new found fault take.BadLine is some same = (is ∙ ap (option_map take_refusal) some, same)
refused old new found fault (take.Order last got) is some same = (is ∙ ap (option_map take_refusal) some, same)
refused old new found fault (take.Gap last got) is some same = (is ∙ ap (option_map take_refusal) some, same)

-- ---- an event

module _ (old new : MirrorLogData) (t : TransitionData) where
  event_whole : TakesAlone old t new → TakesWhole old (Told t) new
  event_whole takes = record {
    selection = takes.selection;
    most_gap = takes.most_gap;
    grows = record { more = takes.grows.more; log_is = takes.grows.log_is; told_by = takes.grows.told_by };
    reached = takes.reached;
    kept = takes.kept;
  }

  event_part : TakesSomeAlone old t new → TakesPart old (Told t) new
  event_part takes = record {
    selection = takes.selection;
    most_gap = takes.most_gap;
    grows = record { more = takes.grows.more; log_is = takes.grows.log_is; told_by = takes.grows.told_by };
    within = takes.within;
  }

  abbrev read_event : Option PeerLine
  read_event = Some (peer.Told t.kind t.obj t.rev)

  event_is : (fault : Option TakeNo) → told_fault old read_event ≡ option_map take_refusal fault → fault ≡ None → IsToldAs old read_event (Told t)
  event_is fault is none = record { is = refl; no_fault = is ∙ ap (option_map take_refusal) none }

  pub event_heard : (fault : Option TakeNo) (result : Result ℕ MirrorNo) → told_fault old read_event ≡ option_map take_refusal fault → HearsAlone old fault t result new
      → HearsTold old read_event (answer_as (end_of new.log) result) new
  event_heard fault (Ok to) is (none, takes, to_is) = (Told t, event_is fault is none, event_whole takes, to_is)
  event_heard fault (Err (mirror.Refused why)) is (some, same) = refused old new read_event fault why is some same
  event_heard fault (Err (mirror.Passed at)) is (none, takes, at_is, above) = (Told t, event_is fault is none, event_part takes, refl, at_is, above)
  event_heard fault (Err mirror.Memory) is (none, takes) = (Told t, event_is fault is none, event_part takes)

-- ---- a bookmark

module _ (old new : MirrorLogData) (at : ℕ) (closing : Bool) where
  mark_whole : Takes old (Bookmark at) new → TakesWhole old (Bookmark at) new
  mark_whole takes = record {
    selection = takes.selection;
    most_gap = takes.most_gap;
    grows = record { more = takes.grows.more; log_is = takes.grows.log_is; told_by = takes.grows.told_by };
    reached = takes.reached;
    kept = takes.kept;
  }

  mark_part : TakesSome old (Bookmark at) new → TakesPart old (Bookmark at) new
  mark_part takes = record {
    selection = takes.selection;
    most_gap = takes.most_gap;
    grows = record { more = takes.grows.more; log_is = takes.grows.log_is; told_by = takes.grows.told_by };
    within = takes.within;
  }

  abbrev read_mark : Option PeerLine
  read_mark = Some (peer.Bookmark at closing)

-- one with which nothing is wrong closes nothing
open_mark : (most to : ℕ) (kept : List TransitionData) (at : ℕ) (closing : Bool) → mark_fault most to kept at closing ≡ None → Some (peer.Bookmark at closing) ≡ Some (peer.Bookmark at false)
open_mark most to kept at true none = absurd (cc)
open_mark most to kept at false none = refl

module _ (old new : MirrorLogData) (at : ℕ) (closing : Bool) where
  abbrev fault_of : Option TakeNo
  fault_of = mark_fault old.most_gap (end_of old.log) old.kept at closing

  mark_is : fault_of ≡ None → IsToldAs old (read_mark old new at closing) (Bookmark at)
  mark_is none = record { is = open_mark old.most_gap (end_of old.log) old.kept at closing none; no_fault = ap (option_map take_refusal) none }

  pub mark_heard : (result : Result ℕ MirrorNo) → Hears old fault_of (Bookmark at) result new → HearsTold old (read_mark old new at closing) (answer_as (end_of new.log) result) new
  mark_heard (Ok to) (none, takes, to_is) = (Bookmark at, mark_is none, mark_whole old new at closing takes, to_is)
  mark_heard (Err (mirror.Refused why)) (some, same) = refused old new (read_mark old new at closing) fault_of why refl some same
  mark_heard (Err (mirror.Passed mark)) (none, takes, at_is, above) = (Bookmark at, mark_is none, mark_part old new at closing takes, refl, at_is, above)
  mark_heard (Err mirror.Memory) (none, takes) = (Bookmark at, mark_is none, mark_part old new at closing takes)

-- ---- what it leaves

-- whose it is, and a log that grew
pub record StaysOf (old new : MirrorLogData) : Type 0 where
  pub selection : new.selection ≡ old.selection
  pub most_gap : new.most_gap ≡ old.most_gap
  pub more : List RevisionData
  pub log : new.log ≡ grown old.log more

unmoved : (old new : MirrorLogData) → new ≡ old → StaysOf old new
unmoved old new same = record {
  selection = ap (λ (m : MirrorLogData). m.selection) same;
  most_gap = ap (λ (m : MirrorLogData). m.most_gap) same;
  more = [];
  log = ap (λ (m : MirrorLogData). m.log) same ∙ ap (λ (revisions : List RevisionData). let log : Log = record old.log { revisions = revisions } in log) (sym (append-nil old.log.revisions));
}

partly : (old new : MirrorLogData) (line : Line) → TakesPart old line new → StaysOf old new
partly old new line takes = record { selection = takes.selection; most_gap = takes.most_gap; more = takes.grows.more; log = takes.grows.log_is }

-- what was refused was taken in part, or nothing changed
pub part_or_same : (old new : MirrorLogData) (found : Option PeerLine) (why : ClusterNo) → HearsTold old found (Err why) new → ((line : Line) × IsToldAs old found line × TakesPart old line new) ⊎ (new ≡ old)
part_or_same old new found (no.Passed to at) (line, is, takes, to_is, at_is, above) = inl (line, is, takes)
part_or_same old new found no.Memory (line, is, takes) = inl (line, is, takes)
part_or_same old new found why hears = inr hears.1

stays_part : (old new : MirrorLogData) (found : Option PeerLine) → ((line : Line) × IsToldAs old found line × TakesPart old line new) ⊎ (new ≡ old) → StaysOf old new
stays_part old new found (inl (line, is, takes)) = partly old new line takes
stays_part old new found (inr same) = unmoved old new same

pub stays_of : (old new : MirrorLogData) (text : List ℕ) (result : Result Heard ClusterNo) → HearsTextOf old text result new → StaysOf old new
stays_of old new text (Ok (heard.Line to)) (found, reads, (line, is, takes, to_is)) =
    record { selection = takes.selection; most_gap = takes.most_gap; more = takes.grows.more; log = takes.grows.log_is }
stays_of old new text (Ok (heard.Ended to)) never = absurd never
stays_of old new text (Err why) (inl memory) = unmoved old new memory.1
stays_of old new text (Err why) (inr (found, reads, hears)) = stays_part old new found (part_or_same old new found why hears)
