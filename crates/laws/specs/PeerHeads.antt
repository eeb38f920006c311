-- Heads of a peer's answers, as bytes determine them: a head is that of a chunked body, or refused, or not whole yet.
use Rattle.std.specs.Prelude.{◌≡◌, ◌⊎◌, ℕ, List, ◌++◌, Option}
use Rattle.httparse.specs.Spans.{ResponseExceeds}
use Rattle.http_read.specs.Heads.{most_fields}
use Rattle.http_read.specs.Requests.{front}
use Rattle.line_stream.specs.Heads.{BeginsChunks, IsOpenHead, RefusesResponse}
use Rattle.line_stream.specs.declared.refusal.LineNo.{LineNo}
use Rattle.line_stream.specs.declared.refusal.LineNo.TheVariants.{BadHead, Refused, Memory}

-- bytes that follow don't change that a chunked body begins, and it begins in one way
abbrev pub BodiesBeginOnce : Type 0
BodiesBeginOnce =
    (bytes more after : List ℕ) → BeginsChunks bytes after →
    BeginsChunks (bytes ++ more) (after ++ more) × ((other : List ℕ) → BeginsChunks (bytes ++ more) other → other ≡ after ++ more)

-- where a chunked body begins, whatever follows, nothing is refused but for want of memory
abbrev pub BegunIsNotRefused : Type 0
BegunIsNotRefused =
    (bytes more after : List ℕ) (left : Option (List ℕ)) (why : LineNo) → BeginsChunks bytes after →
    RefusesResponse (bytes ++ more) left why → why ≡ Memory

-- a refusal of what the bytes are, and not of their end, nor for want of memory
abbrev pub IsOfHead : LineNo → Type 0
IsOfHead why = (why ≡ BadHead) ⊎ ((code : ℕ) × (why ≡ Refused code))

-- bytes that follow don't change such a refusal, whatever is still to come
abbrev pub HeadRefusalsStay : Type 0
HeadRefusalsStay =
    (bytes more : List ℕ) (left other : Option (List ℕ)) (why : LineNo) → IsOfHead why →
    RefusesResponse bytes left why → RefusesResponse (bytes ++ more) other why

-- two of them are one
abbrev pub HeadRefusalsAgree : Type 0
HeadRefusalsAgree =
    (bytes more : List ℕ) (left other : Option (List ℕ)) (why later : LineNo) → IsOfHead why → IsOfHead later →
    RefusesResponse bytes left why → RefusesResponse (bytes ++ more) other later → later ≡ why

-- where a head isn't whole yet, no chunked body begins; nor is it refused, but for one case: more than 64 fields may
-- stand although the head goes on
abbrev pub OpenIsNotRefused : Type 0
OpenIsNotRefused =
    (bytes : List ℕ) → IsOpenHead bytes →
    ((after : List ℕ) → BeginsChunks bytes after → ⊥)
    × ((left : Option (List ℕ)) (why : LineNo) → IsOfHead why → RefusesResponse bytes left why →
    (why ≡ BadHead) × ResponseExceeds most_fields (front bytes))
