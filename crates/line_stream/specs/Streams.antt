-- Streams that are written and read.
use Rattle.std.specs.Prelude.{◌≡◌, ◌⊎◌, ℕ, ◌+◌, ◌<◌, ◌^◌, List, [], ◌∷◌, ◌++◌, Option, None, All}
use Rattle.std.specs.List.{flat_map}
use Rattle.http_send.specs.Replies.{stream_head_text, chunk_text, stream_end_text}
use Rattle.line_stream.specs.Readers.{ReaderData}
use Rattle.line_stream.specs.Standing.{IsLine, Stands}
use Rattle.line_stream.specs.declared.place.Place.{Place}
use Rattle.line_stream.specs.declared.place.Place.TheVariants.{AtSize, Over}

-- a stream so far: its head, and lines, each in a chunk of its own
abbrev pub stream_bytes : List (List ℕ) → List ℕ
stream_bytes lines = stream_head_text ++ flat_map (λ line. chunk_text (line ++ 10 ∷ [])) lines

-- a whole stream
abbrev pub whole_stream : List (List ℕ) → List ℕ
whole_stream lines = stream_bytes lines ++ stream_end_text

-- a reader that used all bytes, and may take any amount of data
abbrev pub reader_at : ℕ → Place → ReaderData
reader_at most place = record { kept = []; place = place; part = []; room = None; most = most }

-- lines that fit chunks, with their line feeds
abbrev pub AreLines : ℕ → List (List ℕ) → Type 0
AreLines most lines = (most + 1 < 2 ^ 64) × All (IsLine most) lines

-- a stream stands with its lines, and the body is over where it has its end
abbrev pub StreamsStand : Type 0
StreamsStand =
    (most : ℕ) (lines : List (List ℕ)) → AreLines most lines
    → Stands None most (stream_bytes lines) lines (reader_at most AtSize)
    × Stands None most (whole_stream lines) lines (reader_at most Over)

-- these are the first lines, and all where the body is over
pub record AreRead (lines read : List (List ℕ)) (reader : ReaderData) : Type 0 where
  pub later : List (List ℕ)
  pub joined : lines ≡ read ++ later
  pub all : reader.place ≡ Over → later ≡ []

-- who stands in a beginning of a stream stands with its first lines
abbrev pub StreamsReadBack : Type 0
StreamsReadBack =
    (limit : ℕ) (lines read : List (List ℕ)) (room : Option ℕ) (most : ℕ) (bytes more : List ℕ) (reader : ReaderData) → AreLines limit lines
    → Stands room most bytes read reader → bytes ++ more ≡ whole_stream lines → AreRead lines read reader

-- of the lines that stand in some bytes, and in them and those that follow, the ones begin the others
abbrev pub ReadingsAgree : Type 0
ReadingsAgree =
    (lines others : List (List ℕ)) (room bound : Option ℕ) (most limit : ℕ) (bytes more : List ℕ) (reader other : ReaderData)
    → Stands room most bytes lines reader → Stands bound limit (bytes ++ more) others other
    → ((later : List (List ℕ)) × (others ≡ lines ++ later)) ⊎ ((later : List (List ℕ)) × (lines ≡ others ++ later))
