-- How the reading of a line ends.
use Rattle.std.specs.Prelude.{◌≡◌, ◌≢◌, ℕ, ◌≤◌, List, [], ◌++◌, length, Some}
use Rattle.line_stream.specs.Readers.{ReaderData, GoesOn, EndsLine, IsReaderRefused}
use Rattle.line_stream.specs.declared.place.Place.TheVariants as place
use Rattle.line_stream.specs.declared.refusal.LineNo.{LineNo}

-- a whole line, the end of the body, or a refusal
pub data Outcome : Type 0 where
  whole over : Outcome
  refused : LineNo → Outcome

-- where a reader stands shows this outcome; where no more data may be taken, that is a refusal
abbrev pub HasOutcome : ReaderData → Outcome → Type 0
HasOutcome reader whole = ((new : ReaderData) × EndsLine reader new) × (length reader.part ≤ reader.most)
HasOutcome reader over = (reader.room ≢ Some 0) × (reader.place ≡ place.Over) × (reader.part ≡ [])
HasOutcome reader (refused why) = IsReaderRefused reader why

-- from a reader, over some bytes, the reading of a line has one outcome, and bytes that follow don't change it: it
-- doesn't matter how the bytes came in pieces
abbrev pub OutcomesAgree : Type 0
OutcomesAgree =
    (bytes more : List ℕ) (old first second : ReaderData) (o p : Outcome) → length old.part ≤ old.most
    → GoesOn old bytes first → HasOutcome first o → GoesOn old (bytes ++ more) second → HasOutcome second p → o ≡ p
