-- A reader of lines: where it stands, how it goes on, and why it has no line.
use Rattle.std.specs.Prelude.{◌≡◌, ◌≢◌, ℕ, ◌+◌, ◌<◌, ◌≤◌, List, [], ◌∷◌, ◌++◌, length, Option, None, Some, IfSome, All}
use Rattle.line_stream.specs.Chunks.{Carries, IsOpenAt, IsRefusedAt}
use Rattle.line_stream.specs.declared.place.Place.{Place}
use Rattle.line_stream.specs.declared.place.Place.TheVariants.{Inside, Over}
use Rattle.line_stream.specs.declared.refusal.LineNo.{LineNo}
use Rattle.line_stream.specs.declared.refusal.LineNo.TheVariants.{BadHead, Refused, BadChunk, Overlong, Unfinished, Spent, CutShort, ReadFault, Memory}

-- the most bytes of a line of a peer that is a server as this one, without its line feed
abbrev pub most_line : ℕ
most_line = 2097152

-- where a reader stands: the bytes that were read and not used, what comes next, the line so far, how much data may
-- still be taken, if there is a bound, and the most bytes of a line, without its line feed
pub record ReaderData : Type 0 where
  pub kept : List ℕ
  pub place : Place
  pub part : List ℕ
  pub room : Option ℕ
  pub most : ℕ

-- a reader of lines: where it stands, and the last whole line
pub record LinesData : Type 0 where
  pub at : ReaderData
  pub line : List ℕ

-- no line ends in these bytes: they have no line feed
abbrev pub IsWithinLine : List ℕ → Type 0
IsWithinLine bytes = All (λ b. b ≢ 10) bytes

-- of the data that may be taken so much was, and this is left
abbrev pub Spends : Option ℕ → ℕ → Option ℕ → Type 0
Spends None n new = new ≡ None
Spends (Some room) n new = (left : ℕ) × (room ≡ n + left) × (new ≡ Some left)

-- so much data may be taken
abbrev pub FitsRoom : Option ℕ → ℕ → Type 0
FitsRoom room n = IfSome room (λ r. n ≤ r)

-- over these bytes, of which it keeps the end, a reader went from one place to another, and they carry this data
pub record Passes (old : ReaderData) (bytes content : List ℕ) (new : ReaderData) : Type 0 where
  pub framed : List ℕ
  pub bytes_are : bytes ≡ framed ++ new.kept
  pub carries : Carries old.place framed content new.place
  pub room : Spends old.room (length content) new.room
  pub most : new.most ≡ old.most

-- over these bytes a reader went on within a line
pub record GoesOn (old : ReaderData) (bytes : List ℕ) (new : ReaderData) : Type 0 where
  pub content : List ℕ
  pub passes : Passes old bytes content new
  pub within : IsWithinLine content
  pub part : new.part ≡ old.part ++ content
  pub short : length old.part ≤ old.most → length new.part ≤ old.most

-- a reader took the line feed that ends its line, as data of the chunk, and stands right behind it
pub record EndsLine (old new : ReaderData) : Type 0 where
  pub left : ℕ
  pub feed : old.kept ≡ 10 ∷ new.kept
  pub inside : old.place ≡ Inside (1 + left)
  pub place : new.place ≡ Inside left
  pub room : Spends old.room 1 new.room
  pub most : new.most ≡ old.most
  pub part : new.part ≡ []

-- over these bytes, those that it kept and those that it took, a reader came to the end of the line `text`: to its line
-- feed, and over that
pub record ReadsText (old : ReaderData) (bytes text : List ℕ) (new : ReaderData) : Type 0 where
  pub before : ReaderData
  pub goes : GoesOn old bytes before
  pub text_is : text ≡ before.part
  pub short : length text ≤ old.most
  pub ends : EndsLine before new

-- a whole line stands in the bytes that a reader keeps
abbrev pub HoldsLine : ReaderData → Type 0
HoldsLine reader = (text : List ℕ) × (new : ReaderData) × ReadsText reader reader.kept text new

-- the data at hand makes a line too long: it is in front of the bytes and in the chunk, may be taken, and has no line
-- feed
pub record IsOverlong (reader : ReaderData) : Type 0 where
  pub content : List ℕ
  pub after : List ℕ
  pub size : ℕ
  pub at_hand : reader.kept ≡ content ++ after
  pub place : reader.place ≡ Inside size
  pub fits : length content ≤ size
  pub room : FitsRoom reader.room (length content)
  pub within : IsWithinLine content
  pub long : reader.most < length reader.part + length content

-- what a reader keeps is refused with this number, whatever follows
abbrev pub IsReaderRefused : ReaderData → LineNo → Type 0
IsReaderRefused reader BadHead = ⊥
IsReaderRefused reader (Refused code) = ⊥
IsReaderRefused reader BadChunk = (reader.room ≢ Some 0) × IsRefusedAt reader.place reader.kept
IsReaderRefused reader Overlong = (reader.room ≢ Some 0) × IsOverlong reader
IsReaderRefused reader Unfinished = (reader.room ≢ Some 0) × (reader.place ≡ Over) × (0 < length reader.part)
IsReaderRefused reader Spent = reader.room ≡ Some 0
IsReaderRefused reader CutShort = ⊥
IsReaderRefused reader ReadFault = ⊥
IsReaderRefused reader Memory = ⊥

-- a reader has to read on: it may take data, and what it keeps is no whole piece yet
abbrev pub IsOpen : ReaderData → Type 0
IsOpen reader = (reader.room ≢ Some 0) × IsOpenAt reader.place reader.kept
