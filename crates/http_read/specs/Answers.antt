-- What a reader answers.
use Rattle.std.specs.Prelude.{◌≡◌, ℕ, List, [], ◌++◌, Option, None, Some, Result, Ok, Err, ⊤}
use Rattle.edge_io.specs.Told.{IsExhausted, prepended}
use Rattle.edge_io.specs.Counts.{Rose}
use Rattle.http_read.specs.Readers.{ReaderState}
use Rattle.http_read.specs.Requests.{ReadsOne, IsRefused, IsCutShort, IsUnfinished}
use Rattle.http_read.specs.declared.request.Req.{Req}
use Rattle.http_read.specs.declared.refusal.ReqNo.{ReqNo}
use Rattle.http_read.specs.declared.refusal.ReqNo.TheVariants.{Malformed, HeadTooLong, TooManyHeaders, BodyTooLong, NeedsLength, CutShort, ReadFault, Memory}

-- what the reading of a request answers that has these bytes before it, where `kept` is what it leaves of them
abbrev pub ReadsNext : List ℕ → Result (Option Req) ReqNo → List ℕ → Option (List ℕ) → ℕ → ℕ → Type 0
ReadsNext bytes (Ok (Some req)) kept left old_faults new_faults = ReadsOne bytes req kept
ReadsNext bytes (Ok None) kept left old_faults new_faults = (bytes ≡ []) × IsExhausted left × (kept ≡ [])
ReadsNext bytes (Err ReadFault) kept left old_faults new_faults = Rose old_faults new_faults × IsUnfinished bytes
ReadsNext bytes (Err Memory) kept left old_faults new_faults = kept ≡ bytes
ReadsNext bytes (Err CutShort) kept left old_faults new_faults = IsCutShort bytes × IsExhausted left
ReadsNext bytes (Err Malformed) kept left old_faults new_faults = IsRefused bytes Malformed
ReadsNext bytes (Err HeadTooLong) kept left old_faults new_faults = IsRefused bytes HeadTooLong
ReadsNext bytes (Err TooManyHeaders) kept left old_faults new_faults = IsRefused bytes TooManyHeaders
ReadsNext bytes (Err BodyTooLong) kept left old_faults new_faults = IsRefused bytes BodyTooLong
ReadsNext bytes (Err NeedsLength) kept left old_faults new_faults = IsRefused bytes NeedsLength

-- the call didn't end in a fault of the source, so that this holds
abbrev pub UnlessFault : {A : Type 0} → Result A ReqNo → Type 0 → Type 0
UnlessFault (Ok answer) P = P
UnlessFault (Err ReadFault) P = ⊤
UnlessFault (Err Memory) P = P
UnlessFault (Err CutShort) P = P
UnlessFault (Err Malformed) P = P
UnlessFault (Err HeadTooLong) P = P
UnlessFault (Err TooManyHeaders) P = P
UnlessFault (Err BodyTooLong) P = P
UnlessFault (Err NeedsLength) P = P

-- the refusal that a reader keeps after an answer: none but after a refusal, and want of memory is none
abbrev pub kept_refusal : Result (Option Req) ReqNo → Option ReqNo
kept_refusal (Ok answer) = None
kept_refusal (Err Memory) = None
kept_refusal (Err ReadFault) = Some ReadFault
kept_refusal (Err CutShort) = Some CutShort
kept_refusal (Err Malformed) = Some Malformed
kept_refusal (Err HeadTooLong) = Some HeadTooLong
kept_refusal (Err TooManyHeaders) = Some TooManyHeaders
kept_refusal (Err BodyTooLong) = Some BodyTooLong
kept_refusal (Err NeedsLength) = Some NeedsLength

-- what a call that reads may answer: it takes some bytes from the source, and what the reader had kept stands before them.
-- It takes none unless what it had kept is unfinished.
pub record AnswersNext
    (old new : ReaderState) (old_left new_left : Option (List ℕ)) (old_faults new_faults : ℕ)
    (answer : Result (Option Req) ReqNo) : Type 0 where
  pub taken : List ℕ
  pub left : old_left ≡ prepended taken new_left
  pub answers : ReadsNext (old.kept ++ taken) answer new.kept new_left old_faults new_faults
  pub idle : (IsUnfinished old.kept → ⊥) → taken ≡ []
  pub refusal : new.refusal ≡ kept_refusal answer

-- what a reader that keeps a refusal answers: that refusal, with nothing done
abbrev pub Repeats : {S : Type 0} → ReaderState → ReaderState → S → S → Result (Option Req) ReqNo → ReqNo → Type 0
Repeats old new old_source new_source answer why = (answer ≡ Err why) × (new ≡ old) × (new_source ≡ old_source)
