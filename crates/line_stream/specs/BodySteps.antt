-- The steps in which a whole body is read.
use Rattle.std.specs.Prelude.{◌≡◌, ◌⊎◌, ℕ, ◌+◌, ◌<◌, ◌≤◌, List, [], ◌++◌, length, drop, Option, None, Some, Result, Ok, Err, ⊤}
use Rattle.edge_io.specs.Told.{prepended, IsExhausted}
use Rattle.line_stream.specs.Chunks.{Carries, IsOpenAt, IsRefusedAt}
use Rattle.line_stream.specs.Moves.{steps_left}
use Rattle.line_stream.specs.Readers.{ReaderData}
use Rattle.line_stream.specs.Steps.{GivesNone}
use Rattle.line_stream.specs.declared.chunks.Frame.{Frame}
use Rattle.line_stream.specs.declared.chunks.Frame.TheVariants as frame
use Rattle.line_stream.specs.declared.framing.Framing.{Framing}
use Rattle.line_stream.specs.declared.framing.Framing.TheVariants.{Counted, Chunked}
use Rattle.line_stream.specs.declared.place.Place.{Place}
use Rattle.line_stream.specs.declared.place.Place.TheVariants.{AtSize, Inside, Over}
use Rattle.line_stream.specs.declared.refusal.LineNo.{LineNo}
use Rattle.line_stream.specs.declared.refusal.LineNo.TheVariants.{BadHead, Refused, BadChunk, Overlong, Unfinished, Spent, CutShort, ReadFault, Memory}

-- what the taking of more bytes answers
abbrev pub FillsKept : List ℕ → List ℕ → Option (List ℕ) → Option (List ℕ) → ℕ → ℕ → Result (Unit {0}) LineNo → Type 0
FillsKept old new old_left left old_faults new_faults (Ok u) =
    (came : List ℕ) × (0 < length came) × (new ≡ old ++ came) × (old_left ≡ prepended came left) × (new_faults ≡ old_faults)
FillsKept old new old_left left old_faults new_faults (Err why) =
    (new ≡ old) × (old_left ≡ left) × GivesNone left old_faults new_faults why

-- bytes went from those that are kept to the data, as many as there are, until it has `whole`
pub record Moved (kept content : List ℕ) (whole : ℕ) (later more : List ℕ) : Type 0 where
  pub bytes : List ℕ
  pub from : kept ≡ bytes ++ later
  pub to : more ≡ content ++ bytes
  pub within : length more ≤ whole
  pub all : length more < whole → later ≡ []

-- ---- a body in chunks

-- where its reading is: as of a reader whose line is the data so far, at most `limit` bytes
abbrev pub reading_at : ℕ → Place → List ℕ → List ℕ → ReaderData
reading_at limit place kept content = record { kept = kept; place = place; part = content; room = None; most = limit }

-- a piece without data is let go
abbrev pub PassesFrame : List ℕ → Frame → Result (Option Place) LineNo → List ℕ → Type 0
PassesFrame kept (frame.Passed len to) answer later = (answer ≡ Ok (Some to)) × (later ≡ drop len kept)
PassesFrame kept frame.Open answer later = (answer ≡ Ok None) × (later ≡ kept)
PassesFrame kept frame.Refused answer later = (answer ≡ Err BadChunk) × (later ≡ kept)

-- so many bytes stand there
abbrev pub IsWithinFrame : List ℕ → Frame → Type 0
IsWithinFrame kept (frame.Passed len to) = len ≤ length kept
IsWithinFrame kept frame.Open = ⊤
IsWithinFrame kept frame.Refused = ⊤

-- pieces were passed, and their data taken, which brings the end of the body nearer
pub record PassesChunk (limit : ℕ) (place : Place) (kept content : List ℕ) (to : Place) (later more : List ℕ) : Type 0 where
  pub framed : List ℕ
  pub taken : List ℕ
  pub bytes : kept ≡ framed ++ later
  pub carries : Carries place framed taken to
  pub grown : more ≡ content ++ taken
  pub short : length content ≤ limit → length more ≤ limit
  pub nearer : steps_left (reading_at limit to later more) < steps_left (reading_at limit place kept content)

-- why nothing is passed
abbrev pub StopsChunk : ℕ → Place → List ℕ → List ℕ → LineNo → Type 0
StopsChunk limit place kept content BadHead = ⊥
StopsChunk limit place kept content (Refused code) = ⊥
StopsChunk limit place kept content BadChunk = IsRefusedAt place kept
StopsChunk limit place kept content Overlong = (size : ℕ) × (place ≡ Inside size) × (limit < length content + size)
StopsChunk limit place kept content Unfinished = ⊥
StopsChunk limit place kept content Spent = ⊥
StopsChunk limit place kept content CutShort = ⊥
StopsChunk limit place kept content ReadFault = ⊥
StopsChunk limit place kept content Memory = ⊤

-- what a step answers that reads nothing from a source: the place that it comes to; or none, where nothing is whole
abbrev pub StepsChunk : ℕ → Place → List ℕ → List ℕ → Result (Option Place) LineNo → List ℕ → List ℕ → Type 0
StepsChunk limit place kept content (Ok (Some to)) later more = PassesChunk limit place kept content to later more
StepsChunk limit place kept content (Ok None) later more = (later ≡ kept) × (more ≡ content) × IsOpenAt place kept
StepsChunk limit place kept content (Err why) later more =
    (later ≡ kept) × (more ≡ content) × StopsChunk limit place kept content why

-- the front of a body in chunks was read up to a place, with this data
pub record IsFront (bytes content kept : List ℕ) (place : Place) : Type 0 where
  pub framed : List ℕ
  pub joined : bytes ≡ framed ++ kept
  pub carries : Carries AtSize framed content place

-- why it goes on no further
abbrev pub StopsChunks : ℕ → Place → List ℕ → List ℕ → Option (List ℕ) → LineNo → Type 0
StopsChunks limit place kept content left BadHead = ⊥
StopsChunks limit place kept content left (Refused code) = ⊥
StopsChunks limit place kept content left BadChunk = IsRefusedAt place kept
StopsChunks limit place kept content left Overlong = (size : ℕ) × (place ≡ Inside size) × (limit < length content + size)
StopsChunks limit place kept content left Unfinished = ⊥
StopsChunks limit place kept content left Spent = ⊥
StopsChunks limit place kept content left CutShort = IsOpenAt place kept × IsExhausted left
StopsChunks limit place kept content left ReadFault = IsOpenAt place kept
StopsChunks limit place kept content left Memory = ⊤

-- what the reading of a body in chunks answers, over its bytes
abbrev pub ReadsChunks : ℕ → List ℕ → List ℕ → List ℕ → Option (List ℕ) → Result (Unit {0}) LineNo → Type 0
ReadsChunks limit bytes content kept left (Ok u) = IsFront bytes content kept Over × (length content ≤ limit)
ReadsChunks limit bytes content kept left (Err why) =
    (place : Place) × IsFront bytes content kept place × StopsChunks limit place kept content left why

-- ---- a body that is counted

-- why it goes on no further
abbrev pub StopsCounted : ℕ → List ℕ → List ℕ → Option (List ℕ) → LineNo → Type 0
StopsCounted size content kept left BadHead = ⊥
StopsCounted size content kept left (Refused code) = ⊥
StopsCounted size content kept left BadChunk = ⊥
StopsCounted size content kept left Overlong = ⊥
StopsCounted size content kept left Unfinished = ⊥
StopsCounted size content kept left Spent = ⊥
StopsCounted size content kept left CutShort = (length content < size) × (kept ≡ []) × IsExhausted left
StopsCounted size content kept left ReadFault = (length content < size) × (kept ≡ [])
StopsCounted size content kept left Memory = ⊤

-- what the reading of a body of so many bytes answers, over its bytes
abbrev pub ReadsCounted : ℕ → List ℕ → List ℕ → List ℕ → Option (List ℕ) → Result (Unit {0}) LineNo → Type 0
ReadsCounted size bytes content kept left (Ok u) = (bytes ≡ content ++ kept) × (length content ≡ size)
ReadsCounted size bytes content kept left (Err why) = (bytes ≡ content ++ kept) × StopsCounted size content kept left why

-- ---- either

-- what the reading of a body that is framed so answers, over its bytes
abbrev pub ReadsRest : ℕ → Framing → List ℕ → List ℕ → List ℕ → Option (List ℕ) → Result (Unit {0}) LineNo → Type 0
ReadsRest limit (Counted size) bytes content kept left (Ok u) =
    ReadsCounted size bytes content kept left (Ok u) × (size ≤ limit)
ReadsRest limit (Counted size) bytes content kept left (Err why) =
    ((why ≡ Overlong) × (limit < size) × (kept ≡ bytes)) ⊎ ReadsCounted size bytes content kept left (Err why)
ReadsRest limit Chunked bytes content kept left answer = ReadsChunks limit bytes content kept left answer
