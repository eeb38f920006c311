-- A line that was read, as a mirror's log hears it.
use Rattle.std.proofs.Common.{◌≡◌, ℕ, List, [], Bool, Option, None, Some, Result, Ok, Err, true, false, refl, sym, ap, ◌∙◌, inl, inr}
use Rattle.std.specs.Prelude.{option_map, IfSome}
use Rattle.std.proofs.lemmas.List.{append-nil}
use Rattle.kube_meta.specs.declared.resources.Resource.TheVariants.{Pods}
use Rattle.mirror_log.specs.declared.take_refusal.TakeNo.{TakeNo}
use Rattle.mirror_log.specs.declared.take_refusal.TakeNo.TheVariants as take
use Rattle.mirror_log.specs.Faults.{mark_fault}
use Rattle.mirror_link.specs.Lines.{HearsRead, HearsText, IsBounded, TakesRead, TakesSomeRead, line_fault}
use Rattle.mirror_link.specs.Refusals.{taking_refusal, hearing_refusal}
use Rattle.mirror_link.specs.declared.heard.Heard.{Heard}
use Rattle.mirror_link.specs.declared.heard.Heard.TheVariants as heard
use Rattle.mirror_link.specs.declared.link_refusal.LinkNo.{LinkNo}
use Rattle.mirror_link.specs.declared.link_refusal.LinkNo.TheVariants as no
use Rattle.mirror_log.specs.MirrorLogs.{MirrorLogData, Hears}
use Rattle.mirror_log.specs.declared.refusal.MirrorNo.{MirrorNo}
use Rattle.mirror_log.specs.declared.refusal.MirrorNo.TheVariants as mirror
use Rattle.rev_log.specs.Changes.{RevisionData}
use Rattle.rev_log.specs.Logs.{Log, end_of, grown}
use Rattle.select_all.specs.Streams.{TransitionData}
use Rattle.watch_lines.specs.Laws.{as_read}
use Rattle.watch_lines.specs.Lines.{ReadsPeerLine}
use Rattle.watch_lines.specs.declared.peer_line.PeerLine.{PeerLine}
use Rattle.watch_lines.specs.declared.peer_line.PeerLine.TheVariants as peer
use Rattle.watch_rules.specs.Bodies.{Line, Bookmark}

-- what is read of a text is within bounds
pub bounded : (text : List ℕ) (found : Option PeerLine) → ReadsPeerLine Pods text found → IfSome found IsBounded
bounded text None reads = tt
bounded text (Some (peer.Told kind obj rev)) reads = reads.1.1
bounded text (Some (peer.Bookmark at closing)) reads = reads.0.1
bounded text (Some (peer.Error code)) reads = tt

-- the answer of a mirror's log, as a mirror's
abbrev pub answer_of : ℕ → Result ℕ MirrorNo → Result ℕ LinkNo
answer_of end (Ok to) = Ok to
answer_of end (Err why) = Err (hearing_refusal end why)

-- a refusal by where the log ends
pub as_view : (answer : LinkNo) (why : MirrorNo) (to end : ℕ) → answer ≡ hearing_refusal to why → to ≡ end → hearing_refusal end why ≡ answer
as_view answer why to end is same = sym (is ∙ ap (λ n. hearing_refusal n why) same)

refused : (old new : MirrorLogData) (read : Option PeerLine) (fault : Option TakeNo) (why : TakeNo) → line_fault old read ≡ option_map taking_refusal fault → fault ≡ Some why → new ≡ old
    → HearsRead old read (Err (taking_refusal why)) new
refused old new read fault take.BadLine is some same = (is ∙ ap (option_map taking_refusal) some, same)
refused old new read fault why is some same = (is ∙ ap (option_map taking_refusal) some, same)

-- a line that is `line`, as it is heard by this fault
pub heard_as : (old new : MirrorLogData) (line : Line) (read : Option PeerLine) (fault : Option TakeNo) (result : Result ℕ MirrorNo) → line_fault old read ≡ option_map taking_refusal fault
    → (fault ≡ None → read ≡ Some (as_read line)) → Hears old fault line result new → HearsRead old read (answer_of (end_of new.log) result) new
heard_as old new line read fault (Ok to) is as_line (none, takes, to_is) =
    (record { line = line; is = as_line none; no_fault = is ∙ ap (option_map taking_refusal) none; takes = takes }, to_is)
heard_as old new line read fault (Err (mirror.Refused why)) is as_line (some, same) = refused old new read fault why is some same
heard_as old new line read fault (Err (mirror.Passed at)) is as_line (none, takes, at_is, above) =
    (record { line = line; is = as_line none; no_fault = is ∙ ap (option_map taking_refusal) none; takes = takes }, refl, at_is, above)
heard_as old new line read fault (Err mirror.Memory) is as_line (none, takes) =
    record { line = line; is = as_line none; no_fault = is ∙ ap (option_map taking_refusal) none; takes = takes }

-- a bookmark with which nothing is wrong closes nothing
pub open_mark : (most_gap to : ℕ) (kept : List TransitionData) (at : ℕ) (closing : Bool) → mark_fault most_gap to kept at closing ≡ None → Some (peer.Bookmark at closing) ≡ Some (as_read (Bookmark at))
open_mark most_gap to kept at true none = absurd (cc)
open_mark most_gap to kept at false none = refl

-- ---- what it leaves

-- the selection, and a log that grew
pub record Stays (old new : MirrorLogData) : Type 0 where
  pub selection : new.selection ≡ old.selection
  pub most_gap : new.most_gap ≡ old.most_gap
  pub more : List RevisionData
  pub log : new.log ≡ grown old.log more

unmoved : (old new : MirrorLogData) → new ≡ old → Stays old new
unmoved old new same = record {
  selection = ap (λ (m : MirrorLogData). m.selection) same;
  most_gap = ap (λ (m : MirrorLogData). m.most_gap) same;
  more = [];
  log = ap (λ (m : MirrorLogData). m.log) same ∙ ap (λ (revisions : List RevisionData). let log : Log = record old.log { revisions = revisions } in log) (sym (append-nil old.log.revisions));
}

whole : (old new : MirrorLogData) (read : Option PeerLine) → TakesRead old read new → Stays old new
whole old new read takes = record { selection = takes.takes.selection; most_gap = takes.takes.most_gap; more = takes.takes.grows.more; log = takes.takes.grows.log_is }

partly : (old new : MirrorLogData) (read : Option PeerLine) → TakesSomeRead old read new → Stays old new
partly old new read takes = record { selection = takes.takes.selection; most_gap = takes.takes.most_gap; more = takes.takes.grows.more; log = takes.takes.grows.log_is }

stays_read : (old new : MirrorLogData) (read : Option PeerLine) (why : LinkNo) → HearsRead old read (Err why) new → Stays old new
stays_read old new read (no.Passed to at) hears = partly old new read hears.0
stays_read old new read no.Memory hears = partly old new read hears
stays_read old new read why hears = unmoved old new hears.1

pub stays : (old new : MirrorLogData) (text : List ℕ) (result : Result Heard LinkNo) → HearsText old text result new → Stays old new
stays old new text (Ok (heard.Line to)) (found, reads, hears) = whole old new found hears.0
stays old new text (Ok (heard.Ended to)) never = absurd never
stays old new text (Err why) (inl memory) = unmoved old new memory.1
stays old new text (Err why) (inr (found, reads, hears)) = stays_read old new found why hears
