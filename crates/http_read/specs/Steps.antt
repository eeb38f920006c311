-- The steps in which a reader reads one request.
use Rattle.std.specs.Prelude.{◌≡◌, ℕ, ◌<◌, ◌≤◌, ◌⊎◌, List, [], ◌++◌, length, take, map, Option, None, Some, Result, Ok, Err, ⊤}
use Rattle.httparse.specs.Grammar.{RequestHead, HasNoRequest, MayBecomeRequest}
use Rattle.httparse.specs.Spans.{IsRequestAt, IsRequestWithin, header_bytes, span_bytes}
use Rattle.httparse.specs.declared.spans.HeaderSpan.{HeaderSpan}
use Rattle.httparse.specs.declared.spans.RequestSpans.{RequestSpans}
use Rattle.edge_io.specs.Told.{IsExhausted, prepended}
use Rattle.edge_io.specs.Counts.{Rose}
use Rattle.http_read.specs.Heads.{FieldText, most_head, most_fields}
use Rattle.http_read.specs.Requests.{front, RefusesHead, EndsInHead, request_with}
use Rattle.http_read.specs.declared.request.Req.{Req}
use Rattle.http_read.specs.declared.unread.FillNo.{FillNo}
use Rattle.http_read.specs.declared.unread.FillNo.TheVariants.{Fault}
use Rattle.http_read.specs.declared.unread.FillNo.TheVariants as fill_no
use Rattle.http_read.specs.declared.refusal.ReqNo.{ReqNo}
use Rattle.http_read.specs.declared.refusal.ReqNo.TheVariants.{Malformed, HeadTooLong, TooManyHeaders, BodyTooLong, NeedsLength, CutShort, ReadFault, Memory}

-- why no bytes were read: a fault, which was counted, or want of memory, which is none
abbrev pub FillsNot : FillNo → ℕ → ℕ → Type 0
FillsNot Fault old_faults new_faults = Rose old_faults new_faults
FillsNot fill_no.Memory old_faults new_faults = new_faults ≡ old_faults

-- the spans are those of a whole head in the front of the bytes
pub record FindsHead (bytes : List ℕ) (spans : List HeaderSpan) (found : RequestSpans) : Type 0 where
  pub head : RequestHead
  pub at : IsRequestAt (front bytes) spans found head
  pub within : IsRequestWithin (front bytes) spans found
  pub few_fields : length head.fields ≤ most_fields

-- the fields that the spans cover
abbrev pub fields_at : List ℕ → List HeaderSpan → ℕ → List FieldText
fields_at bytes spans count = map (header_bytes (front bytes)) (take count spans)

-- the request that the spans cover, with no body
abbrev pub request_at : List ℕ → List HeaderSpan → RequestSpans → Req
request_at bytes spans found =
    request_with (span_bytes (front bytes) found.method) (span_bytes (front bytes) found.path)
    (fields_at bytes spans found.headers) []

-- what a look at the bytes answers: a whole head, that it is open, or a refusal
abbrev pub LooksAtHead : List ℕ → List HeaderSpan → Result (Option RequestSpans) ReqNo → Type 0
LooksAtHead bytes spans (Ok (Some found)) = FindsHead bytes spans found
LooksAtHead bytes spans (Ok None) = (length bytes < most_head) × HasNoRequest bytes × MayBecomeRequest bytes
LooksAtHead bytes spans (Err why) = RefusesHead bytes why

-- what the reading of a head answers, with these bytes before it
abbrev pub ReadsHead : List ℕ → List HeaderSpan → Option (List ℕ) → ℕ → ℕ → Result (Option RequestSpans) ReqNo → Type 0
ReadsHead bytes spans left old_faults new_faults (Ok (Some found)) = FindsHead bytes spans found
ReadsHead bytes spans left old_faults new_faults (Ok None) = (bytes ≡ []) × IsExhausted left
ReadsHead bytes spans left old_faults new_faults (Err CutShort) = EndsInHead bytes × IsExhausted left
ReadsHead bytes spans left old_faults new_faults (Err ReadFault) = Rose old_faults new_faults × ((bytes ≡ []) ⊎ EndsInHead bytes)
ReadsHead bytes spans left old_faults new_faults (Err Malformed) = RefusesHead bytes Malformed
ReadsHead bytes spans left old_faults new_faults (Err HeadTooLong) = RefusesHead bytes HeadTooLong
ReadsHead bytes spans left old_faults new_faults (Err TooManyHeaders) = RefusesHead bytes TooManyHeaders
ReadsHead bytes spans left old_faults new_faults (Err BodyTooLong) = ⊥
ReadsHead bytes spans left old_faults new_faults (Err NeedsLength) = ⊥
ReadsHead bytes spans left old_faults new_faults (Err Memory) = ⊤

-- what the reading of a body of n bytes answers, where these bytes came for it: they are the body and what is kept; or they
-- are too few
abbrev pub FillsBody : ℕ → List ℕ → List ℕ → List ℕ → Option (List ℕ) → ℕ → ℕ → Result (Unit {0}) ReqNo → Type 0
FillsBody n came body kept left old_faults new_faults (Ok u) = (came ≡ body ++ kept) × (length body ≡ n)
FillsBody n came body kept left old_faults new_faults (Err CutShort) = (length came < n) × IsExhausted left
FillsBody n came body kept left old_faults new_faults (Err ReadFault) = Rose old_faults new_faults × (length came < n)
FillsBody n came body kept left old_faults new_faults (Err Malformed) = ⊥
FillsBody n came body kept left old_faults new_faults (Err HeadTooLong) = ⊥
FillsBody n came body kept left old_faults new_faults (Err TooManyHeaders) = ⊥
FillsBody n came body kept left old_faults new_faults (Err BodyTooLong) = ⊥
FillsBody n came body kept left old_faults new_faults (Err NeedsLength) = ⊥
FillsBody n came body kept left old_faults new_faults (Err Memory) = ⊥

-- what one read behind the front of a body answers: so many bytes came, and stand behind it
pub record ReadsMore (old_body new_body : List ℕ) (old_left new_left : Option (List ℕ)) (n : ℕ) : Type 0 where
  pub taken : List ℕ
  pub count : length taken ≡ n
  pub body : new_body ≡ old_body ++ taken
  pub left : old_left ≡ prepended taken new_left
  pub over : n ≡ 0 → IsExhausted new_left
