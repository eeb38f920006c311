-- Whole bodies of replies, and why there is none.
use Rattle.std.specs.Prelude.{◌≡◌, ◌⊎◌, ℕ, ◌+◌, ◌<◌, ◌≤◌, List, [], ◌++◌, length, Option, Result, Ok, Err, ⊤}
use Rattle.edge_io.specs.Told.{IsExhausted}
use Rattle.line_stream.specs.Chunks.{Carries, IsOpenAt, IsRefusedAt}
use Rattle.line_stream.specs.Framings.{BeginsFramed, RefusesFramed}
use Rattle.line_stream.specs.Readers.{LinesData}
use Rattle.line_stream.specs.declared.framing.Framing.TheVariants.{Counted, Chunked}
use Rattle.line_stream.specs.declared.place.Place.{Place}
use Rattle.line_stream.specs.declared.place.Place.TheVariants.{AtSize, Inside, Over}
use Rattle.line_stream.specs.declared.refusal.LineNo.{LineNo}
use Rattle.line_stream.specs.declared.refusal.LineNo.TheVariants.{BadHead, Refused, BadChunk, Overlong, Unfinished, Spent, CutShort, ReadFault, Memory}

-- the bytes begin with the head of a body that counts so many bytes, and this front of it; the rest is kept
pub record IsInCounted (bytes : List ℕ) (size : ℕ) (content kept : List ℕ) : Type 0 where
  pub body : List ℕ
  pub begins : BeginsFramed bytes (Counted size) body
  pub joined : body ≡ content ++ kept

-- the bytes begin with the head of a body in chunks, and bytes of it that lead to this place and carry this data; the
-- rest is kept
pub record IsInChunks (bytes : List ℕ) (content kept : List ℕ) (place : Place) : Type 0 where
  pub body : List ℕ
  pub begins : BeginsFramed bytes Chunked body
  pub framed : List ℕ
  pub joined : body ≡ framed ++ kept
  pub carries : Carries AtSize framed content place

-- the bytes are a reply of code 200, whose body has this data, and what follows it
abbrev pub IsBody : List ℕ → List ℕ → List ℕ → Type 0
IsBody bytes text after = IsInCounted bytes (length text) text after ⊎ IsInChunks bytes text after Over

-- the body isn't whole yet, and more bytes may make it so
abbrev pub IsOpenBody : List ℕ → List ℕ → Type 0
IsOpenBody bytes kept =
    ((size : ℕ) × (content : List ℕ) × IsInCounted bytes size content kept × (length content < size) × (kept ≡ []))
    ⊎ ((place : Place) × (content : List ℕ) × IsInChunks bytes content kept place × IsOpenAt place kept)

-- the body is longer than so many bytes: by its head, or with the chunk whose data comes next
abbrev pub IsLongBody : ℕ → List ℕ → List ℕ → Type 0
IsLongBody limit bytes kept =
    ((size : ℕ) × IsInCounted bytes size [] kept × (limit < size))
    ⊎ ((size : ℕ) × (content : List ℕ) × IsInChunks bytes content kept (Inside size) × (limit < length content + size))

-- behind the head that these bytes begin with, a body isn't whole, for this reason; `left` is what is still to come
abbrev pub RefusesRest : ℕ → List ℕ → List ℕ → Option (List ℕ) → LineNo → Type 0
RefusesRest limit bytes kept left BadHead = ⊥
RefusesRest limit bytes kept left (Refused code) = ⊥
RefusesRest limit bytes kept left BadChunk =
    (place : Place) × (content : List ℕ) × IsInChunks bytes content kept place × IsRefusedAt place kept
RefusesRest limit bytes kept left Overlong = IsLongBody limit bytes kept
RefusesRest limit bytes kept left Unfinished = ⊥
RefusesRest limit bytes kept left Spent = ⊥
RefusesRest limit bytes kept left CutShort = IsOpenBody bytes kept × IsExhausted left
RefusesRest limit bytes kept left ReadFault = IsOpenBody bytes kept
RefusesRest limit bytes kept left Memory = ⊤

-- what the reading of a whole body answers, over the bytes that were kept and those that were taken, and what is kept
-- then: its data, of at most `limit` bytes, and what follows it; or why there is none
abbrev pub ReadsBody : ℕ → List ℕ → List ℕ → Option (List ℕ) → Result (List ℕ) LineNo → Type 0
ReadsBody limit bytes kept left (Ok text) = IsBody bytes text kept × (length text ≤ limit)
ReadsBody limit bytes kept left (Err why) = ((kept ≡ bytes) × RefusesFramed bytes left why) ⊎ RefusesRest limit bytes kept left why

-- the same of a reader of lines, of which nothing else changes
abbrev pub AnswersBody : ℕ → LinesData → List ℕ → LinesData → Option (List ℕ) → Result (List ℕ) LineNo → Type 0
AnswersBody limit old bytes new left answer =
    ReadsBody limit bytes new.at.kept left answer × (new ≡ record old { at = record old.at { kept = new.at.kept } })
