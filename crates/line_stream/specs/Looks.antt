-- What a look at the bytes that a reader keeps finds.
use Rattle.std.specs.Prelude.{◌≡◌, ◌≢◌, ℕ, ◌+◌, ◌<◌, ◌≤◌, List, [], ◌∷◌, ◌++◌, length, take, drop, Some, Result, Ok, Err}
use Rattle.line_stream.specs.Chunks.{ChunkPiece, piece_bytes, piece_data, Follows, MayBecomeEnd, NeverHasEnd, IsOpenAt, IsRefusedAt}
use Rattle.line_stream.specs.Readers.{ReaderData, IsWithinLine, FitsRoom, IsOpen, IsReaderRefused}
use Rattle.httparse.specs.Ascii.{crlf_bytes}
use Rattle.line_stream.specs.declared.place.Place.{Place}
use Rattle.line_stream.specs.declared.place.Place.TheVariants.{Inside, Over}
use Rattle.line_stream.specs.declared.chunks.Ending.{Ending}
use Rattle.line_stream.specs.declared.chunks.Ending.TheVariants as ending
use Rattle.line_stream.specs.declared.chunks.Frame.{Frame}
use Rattle.line_stream.specs.declared.chunks.Frame.TheVariants as frame
use Rattle.line_stream.specs.declared.look.Look.{Look}
use Rattle.line_stream.specs.declared.look.Look.TheVariants as look
use Rattle.line_stream.specs.declared.refusal.LineNo.{LineNo}
use Rattle.line_stream.specs.declared.refusal.LineNo.TheVariants.{BadChunk}

-- the bytes begin with CR LF, may come to, or never will
abbrev pub LooksAtEnd : List ℕ → Ending → Type 0
LooksAtEnd bytes ending.Whole = bytes ≡ crlf_bytes ++ drop 2 bytes
LooksAtEnd bytes ending.Open = MayBecomeEnd bytes
LooksAtEnd bytes ending.Refused = NeverHasEnd bytes

-- what is at a place between data, where the end of a line has to be
abbrev pub frame_of : Place → Ending → Frame
frame_of to ending.Whole = frame.Passed 2 to
frame_of to ending.Open = frame.Open
frame_of to ending.Refused = frame.Refused

-- a piece without data stands in front of the bytes, and leads to this place
pub record IsFrame (place : Place) (bytes : List ℕ) (len : ℕ) (to : Place) : Type 0 where
  pub piece : ChunkPiece
  pub follows : Follows place piece to
  pub stands : bytes ≡ piece_bytes piece ++ drop len bytes
  pub len_is : len ≡ length (piece_bytes piece)
  pub no_data : piece_data piece ≡ []

-- at a place between data: such a piece, or none yet, or none ever
abbrev pub LooksAtFrame : Place → List ℕ → Frame → Type 0
LooksAtFrame place bytes (frame.Passed len to) = IsFrame place bytes len to
LooksAtFrame place bytes frame.Open = IsOpenAt place bytes
LooksAtFrame place bytes frame.Refused = IsRefusedAt place bytes

-- what is found where a piece without data has to be
abbrev pub look_of : Frame → Result Look LineNo
look_of (frame.Passed len to) = Ok (look.Frame len to)
look_of frame.Open = Ok look.Open
look_of frame.Refused = Err BadChunk

-- so much data of the chunk stands in front of the bytes, with no line feed, and the line may have it
pub record IsData (reader : ReaderData) (len left : ℕ) : Type 0 where
  pub some : 0 < len
  pub stands : len ≤ length reader.kept
  pub place : reader.place ≡ Inside (len + left)
  pub room : FitsRoom reader.room len
  pub within : IsWithinLine (take len reader.kept)
  pub short : length reader.part + len ≤ reader.most

-- the line feed that ends the line stands in front of the bytes, as data of the chunk
pub record IsFeed (reader : ReaderData) (left : ℕ) : Type 0 where
  pub stands : reader.kept ≡ 10 ∷ drop 1 reader.kept
  pub place : reader.place ≡ Inside (1 + left)
  pub room : FitsRoom reader.room 1
  pub short : length reader.part ≤ reader.most

-- what a look finds
abbrev pub LooksAt : ReaderData → Result Look LineNo → Type 0
LooksAt reader (Ok (look.Frame len to)) = IsFrame reader.place reader.kept len to
LooksAt reader (Ok (look.Data len left)) = IsData reader len left
LooksAt reader (Ok (look.Feed left)) = IsFeed reader left
LooksAt reader (Ok look.Over) = (reader.room ≢ Some 0) × (reader.place ≡ Over) × (reader.part ≡ [])
LooksAt reader (Ok look.Open) = IsOpen reader
LooksAt reader (Err why) = IsReaderRefused reader why
