-- Laws of the reading of lines.
use Rattle.std.specs.Prelude.{◌≡◌, ℕ, List, [], ◌∷◌, ◌++◌, Option}
use Rattle.line_stream.specs.Heads.{BeginsChunks, at_body}
use Rattle.line_stream.specs.Readers.{ReaderData, GoesOn, ReadsText}
use Rattle.line_stream.specs.Standing.{Stands}

-- behind the head of a chunked body no line stands yet
abbrev pub BodiesBegin : Type 0
BodiesBegin =
    (room : Option ℕ) (most : ℕ) (bytes after : List ℕ) → BeginsChunks bytes after → Stands room most bytes [] (at_body room most after)

-- who stands in some bytes stands in them and those taken with one more line, where a line was read
abbrev pub LinesGoOn : Type 0
LinesGoOn =
    (room : Option ℕ) (most : ℕ) (bytes taken text : List ℕ) (lines : List (List ℕ)) (old new : ReaderData) → Stands room most bytes lines old
    → ReadsText old (old.kept ++ taken) text new → Stands room most (bytes ++ taken) (lines ++ text ∷ []) new

-- and with the same lines, where it went on within a line
abbrev pub PartsGoOn : Type 0
PartsGoOn =
    (room : Option ℕ) (most : ℕ) (bytes taken : List ℕ) (lines : List (List ℕ)) (old new : ReaderData) → Stands room most bytes lines old
    → GoesOn old (old.kept ++ taken) new → Stands room most (bytes ++ taken) lines new

-- a line that was read is read so whatever follows, and no other: it doesn't matter how the bytes came in pieces
abbrev pub LinesAreDetermined : Type 0
LinesAreDetermined =
    (bytes more text other : List ℕ) (old new later : ReaderData) → ReadsText old bytes text new → ReadsText old (bytes ++ more) other later
    → (other ≡ text) × (later ≡ record new { kept = new.kept ++ more })
