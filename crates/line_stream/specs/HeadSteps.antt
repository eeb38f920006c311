-- The steps in which a head is read.
use Rattle.std.specs.Prelude.{◌≡◌, ◌⊎◌, ℕ, ◌≤◌, List, length, drop, Option, None, Some, Result, Ok, Err}
use Rattle.httparse.specs.Grammar.{ResponseHead}
use Rattle.httparse.specs.Spans.{IsResponseAt, IsResponseWithin}
use Rattle.httparse.specs.declared.spans.HeaderSpan.{HeaderSpan}
use Rattle.httparse.specs.declared.spans.ResponseSpans.{ResponseSpans}
use Rattle.http_read.specs.Heads.{most_fields}
use Rattle.http_read.specs.Requests.{front}
use Rattle.line_stream.specs.Heads.{IsOpenHead, IsNoHead, IsUnchunked, HasCode, BeginsChunks, LacksHead, RefusesResponse}
use Rattle.line_stream.specs.Framings.{IsUnframed, BeginsFramed, RefusesFramed}
use Rattle.line_stream.specs.declared.framing.Framing.{Framing}
use Rattle.line_stream.specs.declared.refusal.LineNo.{LineNo}
use Rattle.line_stream.specs.declared.refusal.LineNo.TheVariants.{BadHead, Refused}

-- the spans are those of a whole head in the front of the bytes
pub record FindsHead (bytes : List ℕ) (spans : List HeaderSpan) (found : ResponseSpans) : Type 0 where
  pub head : ResponseHead
  pub at : IsResponseAt (front bytes) spans found head
  pub within : IsResponseWithin (front bytes) spans found
  pub few_fields : length head.fields ≤ most_fields

-- what a look at the bytes answers: a whole head, that it is open, or that there is none
abbrev pub LooksAtHead : List ℕ → List HeaderSpan → Result (Option ResponseSpans) LineNo → Type 0
LooksAtHead bytes spans (Ok (Some found)) = FindsHead bytes spans found
LooksAtHead bytes spans (Ok None) = IsOpenHead bytes
LooksAtHead bytes spans (Err why) = (why ≡ BadHead) × IsNoHead bytes

-- what a whole head in front of the bytes says of its body: where it begins, or why there is none
abbrev pub BeginsAt : List ℕ → Result ℕ LineNo → Type 0
BeginsAt bytes (Ok start) = (start ≤ length bytes) × BeginsChunks bytes (drop start bytes)
BeginsAt bytes (Err why) =
    ((why ≡ BadHead) × IsUnchunked bytes) ⊎ ((code : ℕ) × (why ≡ Refused code) × HasCode bytes code)

-- what the reading of a head answers, where these bytes came
abbrev pub FindsSome : List ℕ → List HeaderSpan → Option (List ℕ) → Result ResponseSpans LineNo → Type 0
FindsSome bytes spans left (Ok found) = FindsHead bytes spans found
FindsSome bytes spans left (Err why) = LacksHead bytes left why

-- the same with what the head says of its body
abbrev pub FindsBody : List ℕ → Option (List ℕ) → Result ℕ LineNo → Type 0
FindsBody bytes left (Ok start) = (start ≤ length bytes) × BeginsChunks bytes (drop start bytes)
FindsBody bytes left (Err why) = RefusesResponse bytes left why

-- what a whole head in front of the bytes says of how its body is framed: behind so many bytes, and how; or why there is
-- none that is read
abbrev pub FramesAt : List ℕ → Result (ℕ × Framing) LineNo → Type 0
FramesAt bytes (Ok found) = (found.0 ≤ length bytes) × BeginsFramed bytes found.1 (drop found.0 bytes)
FramesAt bytes (Err why) =
    ((why ≡ BadHead) × IsUnframed bytes) ⊎ ((code : ℕ) × (why ≡ Refused code) × HasCode bytes code)

-- the same where the head was read
abbrev pub FindsFramed : List ℕ → Option (List ℕ) → Result (ℕ × Framing) LineNo → Type 0
FindsFramed bytes left (Ok found) = (found.0 ≤ length bytes) × BeginsFramed bytes found.1 (drop found.0 bytes)
FindsFramed bytes left (Err why) = RefusesFramed bytes left why
