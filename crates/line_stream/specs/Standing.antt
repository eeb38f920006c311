-- The bytes of a connection so far, as a head and a chunked body with lines.
use Rattle.std.specs.Prelude.{◌≡◌, ℕ, ◌≤◌, List, [], ◌∷◌, ◌++◌, length, Option, All}
use Rattle.std.specs.List.{flat_map}
use Rattle.line_stream.specs.Heads.{BeginsChunks, at_body}
use Rattle.line_stream.specs.Readers.{ReaderData, IsWithinLine, Passes}

-- a line of at most so many bytes, with no line feed
abbrev pub IsLine : ℕ → List ℕ → Type 0
IsLine most line = IsWithinLine line × (length line ≤ most)

-- lines, each with its line feed
abbrev pub lines_bytes : List (List ℕ) → List ℕ
lines_bytes lines = flat_map (λ line. line ++ 10 ∷ []) lines

-- the data is whole lines and a part of a further one
pub record HoldsLines (most : ℕ) (content : List ℕ) (lines : List (List ℕ)) (part : List ℕ) : Type 0 where
  pub joined : content ≡ lines_bytes lines ++ part
  pub lines_are : All (IsLine most) lines
  pub part_is : IsLine most part

-- the bytes of a connection so far are a head and a body whose data is these lines and a part of a further one, and
-- the reader stands at their end; `room` is how much data it could take at first, if there is a bound, and `most` the
-- most bytes of a line
pub record Stands (room : Option ℕ) (most : ℕ) (bytes : List ℕ) (lines : List (List ℕ)) (reader : ReaderData) : Type 0 where
  pub body : List ℕ
  pub begins : BeginsChunks bytes body
  pub content : List ℕ
  pub passes : Passes (at_body room most body) body content reader
  pub holds : HoldsLines most content lines reader.part
