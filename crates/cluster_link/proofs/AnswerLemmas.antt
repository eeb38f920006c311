-- Answers, by the counts of faults and what was sent.
use Rattle.std.proofs.Common.{◌≡◌, ℕ, List, ◌++◌, Option, None, Some, Result, Ok, Err, refl, ap, ◌∙◌, subst, inl, inr}
use Rattle.edge_io.specs.Sent.{Sent, IsSentOn}
use Rattle.line_stream.specs.AskAnswers.{Asks}
use Rattle.line_stream.specs.Answers.{Counts}
use Rattle.line_stream.specs.ClusterRequests.{changes_request}
use Rattle.line_stream.specs.Heads.{AnswersHead, BeginsChunks, RefusesResponse, at_body}
use Rattle.line_stream.specs.Readers.{LinesData, ReaderData}
use Rattle.line_stream.specs.declared.asking.AskNo.{AskNo}
use Rattle.line_stream.specs.declared.asking.AskNo.TheVariants as ask
use Rattle.line_stream.specs.declared.refusal.LineNo.{LineNo}
use Rattle.line_stream.specs.declared.refusal.LineNo.TheVariants as line
use Rattle.rev_log.specs.Logs.{end_of}
use Rattle.std.specs.Prelude.{option_map}
use Rattle.mirror_log.specs.Faults.{event_fault, mark_fault}
use Rattle.mirror_log.specs.MirrorLogs.{MirrorLogData}
use Rattle.mirror_log.specs.declared.take_refusal.TakeNo.{TakeNo}
use Rattle.mirror_log.specs.declared.take_refusal.TakeNo.TheVariants as take
use Rattle.watch_lines.specs.declared.peer_line.PeerLine.{PeerLine}
use Rattle.watch_lines.specs.declared.peer_line.PeerLine.TheVariants as peer
use Rattle.select_all.specs.declared.selection.Selection.{Selection}
use Rattle.cluster_link.specs.Telling.{HearsTextOf, HearsTold, told_fault}
use Rattle.cluster_link.specs.declared.heard.Heard.{Heard}
use Rattle.cluster_link.specs.Counting.{CountsSource, IsRequested}
use Rattle.cluster_link.specs.Mirroring.{ClusterData, unread}
use Rattle.cluster_link.specs.Refusals.{reply_refusal, request_refusal, take_refusal}
use Rattle.cluster_link.specs.Resuming.{BeginsStream, stream_request}
use Rattle.cluster_link.specs.declared.refusal.ClusterNo.{ClusterNo}
use Rattle.cluster_link.specs.declared.refusal.ClusterNo.TheVariants.{ReadFault, WriteFault, Memory}

-- ---- counts

-- an answer that is no fault of the source
pub quiet : (A : Type 0) (why : ClusterNo) (old new : ℕ) → ¬ (why ≡ ReadFault) → new ≡ old → CountsSource {A = A} (Err why) old new
quiet A ReadFault old new other same = absurd (other refl)
quiet A why old new other same = same

-- a reply that isn't there
pub counts_reply : (A B : Type 0) (fault : LineNo) (old new : ℕ) → Counts {A = A} (Err fault) old new → CountsSource {A = B} (Err (reply_refusal fault)) old new
counts_reply A B line.ReadFault old new counts = counts
counts_reply A B fault old new counts = counts

-- a request that wasn't sent reads nothing
pub counts_request : (A : Type 0) (fault : AskNo) (n : ℕ) → CountsSource {A = A} (Err (request_refusal fault)) n n
counts_request A ask.WriteFault n = refl
counts_request A ask.Memory n = refl

-- ---- requests

-- one that was sent on
pub requested : (A : Type 0) (why : ClusterNo) (text : List ℕ) (sent : Sent) → ¬ (why ≡ WriteFault) → IsSentOn text sent → IsRequested {A = A} (Err why) text sent
requested A WriteFault text sent other is = absurd (other refl)
requested A Memory text sent other is = inr is
requested A why text sent other is = is

-- and one that wasn't
pub unrequested : (A : Type 0) (fault : AskNo) (text : List ℕ) (sent : Sent) → Asks (Err fault) text sent → IsRequested {A = A} (Err (request_refusal fault)) text sent
unrequested A ask.WriteFault text sent is = is
unrequested A ask.Memory text sent is = inl is

pub reply_written : (fault : LineNo) → ¬ (reply_refusal fault ≡ WriteFault)
reply_written line.BadHead is = cc
reply_written fault is = cc

-- ---- the head of the stream

-- it is asked for by the mirror as contracts see it
pub stream_is : (m : ClusterData) (s : Selection) (from : ℕ) → s ≡ m.selection → from ≡ end_of m.log → changes_request s.resource s.ns from ≡ stream_request m
stream_is m s from s_is from_is = ap (λ (t : Selection). changes_request t.resource t.ns from) s_is ∙ ap (changes_request m.selection.resource m.selection.ns) from_is

module _ (old new : LinesData) (taken : List ℕ) (left : Option (List ℕ)) (fresh : old.at ≡ unread) where
  kept_is : old.at.kept ++ taken ≡ taken
  kept_is = ap (λ (r : ReaderData). r.kept ++ taken) fresh

  -- a chunked body begins
  pub begins_stream : (u : Unit {0}) → AnswersHead old (old.at.kept ++ taken) new left (Ok u) → BeginsStream taken left (Ok u) new.at
  begins_stream u (after, chunks, is) = (
    after,
    subst (λ (bytes : List ℕ). BeginsChunks bytes after) kept_is chunks,
    ap (λ (r : LinesData). r.at) is ∙ ap (λ (r : ReaderData). at_body r.room r.most after) fresh,
  )

  -- none does
  pub begins_no_stream : (fault : LineNo) → AnswersHead old (old.at.kept ++ taken) new left (Err fault) → BeginsStream taken left (Err (reply_refusal fault)) new.at
  begins_no_stream fault answers = inl (fault, refl, subst (λ (bytes : List ℕ). RefusesResponse bytes left fault) kept_is answers.0)

-- ---- a line

taken_quietly : (why : TakeNo) → ¬ (take_refusal why ≡ ReadFault)
taken_quietly take.BadLine is = cc
taken_quietly (take.Order last got) is = cc
taken_quietly (take.Gap last got) is = cc

fault_quietly : (fault : Option TakeNo) → ¬ (option_map take_refusal fault ≡ Some ReadFault)
fault_quietly None is = cc
fault_quietly (Some why) is = let same : take_refusal why ≡ ReadFault = cc in taken_quietly why same

told_quietly : (m : MirrorLogData) (found : Option PeerLine) → ¬ (told_fault m found ≡ Some ReadFault)
told_quietly m None is = cc
told_quietly m (Some (peer.Told kind obj rev)) is = fault_quietly (event_fault m.selection m.most_gap m.log m.kept (record { kind = kind; obj = obj; rev = rev })) is
told_quietly m (Some (peer.Bookmark at closing)) is = fault_quietly (mark_fault m.most_gap (end_of m.log) m.kept at closing) is
told_quietly m (Some (peer.Error code)) is = cc

-- what is wrong with a line is no fault of the source
pub quiet_text : (old new : MirrorLogData) (text : List ℕ) (result : Result Heard ClusterNo) (before after : ℕ) → HearsTextOf old text result new → after ≡ before → CountsSource result before after
quiet_text old new text (Ok answer) before after heard same = same
quiet_text old new text (Err why) before after (inl memory) same = quiet Heard why before after (λ is. cc (memory.0, is)) same
quiet_text old new text (Err why) before after (inr (found, reads, heard)) same =
    quiet Heard why before after
    (λ is. let of : HearsTold old found (Err ReadFault) new = subst (λ (w : ClusterNo). HearsTold old found (Err w) new) is heard in told_quietly old found of.0) same

-- the count before stands where nothing was counted in between
pub counts_from : (A : Type 0) (why : ClusterNo) (first before after : ℕ) → before ≡ first → CountsSource {A = A} (Err why) before after → CountsSource {A = A} (Err why) first after
counts_from A why first before after same counts = subst (λ (n : ℕ). CountsSource {A = A} (Err why) n after) same counts
