-- Answers, by the counts of faults and what was sent.
use Rattle.std.proofs.Common.{◌≡◌, ℕ, List, [], Bool, true, false, Option, None, Some, Result, Ok, Err, refl, sym, ◌∙◌, inl, inr}
use Rattle.std.specs.Prelude.{◌&&◌, if◌then◌else◌}
use Rattle.edge_io.specs.Sent.{Sent, IsSentOn}
use Rattle.kube_meta.specs.Rows.{RowData}
use Rattle.line_stream.specs.declared.refusal.LineNo.{LineNo}
use Rattle.line_stream.specs.declared.refusal.LineNo.TheVariants as line
use Rattle.select_all.specs.declared.selection.Kind.TheVariants.{Added}
use Rattle.select_all.specs.declared.selection.Selection.{Selection}
use Rattle.select_all.specs.Selecting.{selects}
use Rattle.watch_lines.specs.declared.peer_line.PeerLine.{PeerLine}
use Rattle.watch_lines.specs.declared.peer_line.PeerLine.TheVariants as peer
use Rattle.line_stream.specs.AskAnswers.{Asks}
use Rattle.line_stream.specs.declared.asking.AskNo.{AskNo}
use Rattle.line_stream.specs.declared.asking.AskNo.TheVariants as ask
use Rattle.mirror_link.specs.Asking.{IsAsked, CountsReads}
use Rattle.mirror_link.specs.Reading.{Adds, HasNoRows, HasNoOpening, opening_fault, is_above_last, are_upto}
use Rattle.mirror_link.specs.OpeningRefusals.{reading_refusal, asking_refusal}
use Rattle.mirror_link.specs.declared.link_refusal.LinkNo.{LinkNo}
use Rattle.mirror_link.specs.declared.link_refusal.LinkNo.TheVariants.{BadHead, BadLine, Told, ReadFault, WriteFault, Memory}

-- an answer that is no fault of the source
pub quiet : (A : Type 0) (why : LinkNo) (old new : ℕ) → ¬ (why ≡ ReadFault) → new ≡ old → CountsReads {A = A} (Err why) old new
quiet A ReadFault old new other same = absurd (other refl)
quiet A why old new other same = same

-- a request that was sent on
pub asked : (A : Type 0) (why : LinkNo) (text : List ℕ) (sent : Sent) → ¬ (why ≡ WriteFault) → IsSentOn text sent → IsAsked {A = A} (Err why) text sent
asked A WriteFault text sent other is = absurd (other refl)
asked A Memory text sent other is = inr is
asked A why text sent other is = is

-- and one that wasn't
pub not_asked : (A : Type 0) (fault : AskNo) (text : List ℕ) (sent : Sent) → Asks (Err fault) text sent → IsAsked {A = A} (Err (asking_refusal fault)) text sent
not_asked A ask.WriteFault text sent is = is
not_asked A ask.Memory text sent is = inl is

-- ---- what is wrong with a line is no fault of the ends

either : (b : Bool) (why : LinkNo) → (if b then None else Some BadLine) ≡ Some why → why ≡ BadLine
either true why is = cc
either false why is = cc

pub bad : (s : Selection) (rows : List RowData) (found : Option PeerLine) (why : LinkNo) → opening_fault s rows found ≡ Some why → ¬ (why ≡ ReadFault)
bad s rows None why is fault = cc
bad s rows (Some (peer.Told Added obj rev)) why is fault = let bad_line = either (selects s obj && is_above_last rows obj.key) why is in cc
bad s rows (Some (peer.Bookmark at closing)) why is fault = let bad_line = either (closing && are_upto rows at) why is in cc
bad s rows (Some line) why is fault = cc

pub adds_quietly : (s : Selection) (rows : List RowData) (found : Option PeerLine) (result : Result (Option ℕ) LinkNo) (later : List RowData) (old new : ℕ) →
    Adds s rows found result later → new ≡ old → CountsReads result old new
adds_quietly s rows found (Ok None) later old new adds same = same
adds_quietly s rows found (Ok (Some base)) later old new adds same = same
adds_quietly s rows found (Err why) later old new adds same =
    quiet (Option ℕ) why old new (elim adds [ inl memory ↦ (λ fault. cc (memory, fault)) | inr fault ↦ bad s rows found why fault ]) same

-- ---- a request that wasn't asked is no fault of what was read

pub no_write : (fault : LineNo) → ¬ (reading_refusal fault ≡ WriteFault)
no_write line.BadHead is = cc
no_write fault is = cc

bad_line : (s : Selection) (rows : List RowData) (found : Option PeerLine) (why : LinkNo) → opening_fault s rows found ≡ Some why → ¬ (why ≡ WriteFault)
bad_line s rows None why is fault = cc
bad_line s rows (Some (peer.Told Added obj rev)) why is fault = let that = either (selects s obj && is_above_last rows obj.key) why is in cc
bad_line s rows (Some (peer.Bookmark at closing)) why is fault = let that = either (closing && are_upto rows at) why is in cc
bad_line s rows (Some line) why is fault = cc

pub was_asked : (s : Selection) (bytes : List ℕ) (left : Option (List ℕ)) (why : LinkNo) → HasNoRows s bytes left why → ¬ (why ≡ WriteFault)
was_asked s bytes left why (inl memory) is = cc (memory, is)
was_asked s bytes left why (inr (inl head)) is = no_write head.fault (sym head.why_is ∙ is)
was_asked s bytes left why (inr (inr (inl none))) is = elim none.fault [
  | inl (fault, why_is, faults) ↦ no_write fault (sym why_is ∙ is)
  | inr (why_is, room, over, part) ↦ cc (why_is, is)
]
was_asked s bytes left why (inr (inr (inr bad))) is = bad_line s bad.rows bad.found why bad.fault is

-- nothing was taken
pub unasked : (s : Selection) (left : Option (List ℕ)) (fault : AskNo) → HasNoOpening s [] left (asking_refusal fault)
unasked s left ask.WriteFault = inl (refl, refl)
unasked s left ask.Memory = inr (inl refl)
