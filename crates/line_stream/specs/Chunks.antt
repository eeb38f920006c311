-- Chunked bodies (RFC 9112, section 7.1) as pieces that follow each other. The grammar of a chunk's line is that of
-- `httparse`; no trailer is taken.
use Rattle.std.specs.Prelude.{◌≡◌, ℕ, ◌+◌, ◌<◌, ◌≤◌, ◌==◌, ◌⊎◌, List, [], ◌∷◌, ◌++◌, length, take, if◌then◌else◌}
use Rattle.std.specs.List.{flat_map}
use Rattle.httparse.specs.Ascii.{crlf_bytes}
use Rattle.httparse.specs.Grammar.{ChunkLine, IsChunkLine, print_chunk_line, chunk_size, HasNoChunkLine, NeverHasChunkLine, MayBecomeChunkLine}
use Rattle.line_stream.specs.declared.place.Place.{Place}
use Rattle.line_stream.specs.declared.place.Place.TheVariants.{AtSize, Inside, Last, Over}

-- the most bytes of a chunk's line, with the CR LF that ends it
abbrev pub most_size : ℕ
most_size = 64

-- a piece of a chunked body: a chunk's line, a byte of its data, or the CR LF behind the data or behind the last line
pub data ChunkPiece : Type 0 where
  sized : ChunkLine → ChunkPiece
  byte : ℕ → ChunkPiece
  ended : ChunkPiece

-- the bytes of a piece
abbrev pub piece_bytes : ChunkPiece → List ℕ
piece_bytes (sized l) = print_chunk_line l
piece_bytes (byte b) = b ∷ []
piece_bytes ended = crlf_bytes

-- the data that a piece carries
abbrev pub piece_data : ChunkPiece → List ℕ
piece_data (sized l) = []
piece_data (byte b) = b ∷ []
piece_data ended = []

-- what comes behind the line of a chunk with so much data; the chunk with none is the last
abbrev pub place_behind : ℕ → Place
place_behind size = if size == 0 then Last else Inside size

-- at this place that piece may stand, and this is the place behind it
abbrev pub Follows : Place → ChunkPiece → Place → Type 0
Follows AtSize (sized l) to = IsChunkLine l × (length (print_chunk_line l) ≤ most_size) × (to ≡ place_behind (chunk_size l))
Follows AtSize (byte b) to = ⊥
Follows AtSize ended to = ⊥
Follows (Inside n) (sized l) to = ⊥
Follows (Inside n) (byte b) to = (left : ℕ) × (n ≡ left + 1) × (to ≡ Inside left)
Follows (Inside n) ended to = (n ≡ 0) × (to ≡ AtSize)
Follows Last (sized l) to = ⊥
Follows Last (byte b) to = ⊥
Follows Last ended to = to ≡ Over
Follows Over piece to = ⊥

-- pieces that follow each other lead from one place to another
abbrev pub Leads : Place → List ChunkPiece → Place → Type 0
Leads from [] to = from ≡ to
Leads from (piece ∷ pieces) to = (between : Place) × Follows from piece between × Leads between pieces to

-- the bytes lead from one place to another, and carry this data
pub record Carries (from : Place) (bytes content : List ℕ) (to : Place) : Type 0 where
  pub pieces : List ChunkPiece
  pub leads : Leads from pieces to
  pub bytes_are : bytes ≡ flat_map piece_bytes pieces
  pub content_are : content ≡ flat_map piece_data pieces

-- ---- where a piece isn't whole

-- some bytes can follow that make these the end of a line, CR LF
abbrev pub MayBecomeEnd : List ℕ → Type 0
MayBecomeEnd bytes = (more : List ℕ) × (0 < length more) × (bytes ++ more ≡ crlf_bytes)

-- no bytes can follow that make these begin with the end of a line
abbrev pub NeverHasEnd : List ℕ → Type 0
NeverHasEnd bytes = (more after : List ℕ) → ¬ (bytes ++ more ≡ crlf_bytes ++ after)

-- no whole piece stands at this place, and more bytes may make one whole; a line is waited for up to its 64th byte
abbrev pub IsOpenAt : Place → List ℕ → Type 0
IsOpenAt AtSize bytes = (length bytes < most_size) × HasNoChunkLine bytes × MayBecomeChunkLine bytes
IsOpenAt (Inside n) bytes = (n ≡ 0 → MayBecomeEnd bytes) × (0 < n → bytes ≡ [])
IsOpenAt Last bytes = MayBecomeEnd bytes
IsOpenAt Over bytes = ⊥

-- whatever follows, no piece stands at this place: no line of a chunk, or none in 64 bytes, or something else than CR
-- LF
abbrev pub IsRefusedAt : Place → List ℕ → Type 0
IsRefusedAt AtSize bytes =
    NeverHasChunkLine (take most_size bytes) ⊎ ((most_size ≤ length bytes) × HasNoChunkLine (take most_size bytes))
IsRefusedAt (Inside n) bytes = (n ≡ 0) × NeverHasEnd bytes
IsRefusedAt Last bytes = NeverHasEnd bytes
IsRefusedAt Over bytes = ⊥
