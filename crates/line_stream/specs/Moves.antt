-- How a reader comes nearer to the end of its line.
use Rattle.std.specs.Prelude.{ℕ, ◌+◌, ◌-◌, ◌*◌, ◌<◌, ◌==◌, length, if◌then◌else◌}
use Rattle.http_read.specs.Heads.{most_head}
use Rattle.line_stream.specs.Readers.{ReaderData, GoesOn}
use Rattle.line_stream.specs.declared.place.Place.{Place}
use Rattle.line_stream.specs.declared.place.Place.TheVariants.{AtSize, Inside, Last, Over}

-- a bound on the bytes between two bytes of data, by what comes next
abbrev pub framing_left : Place → ℕ
framing_left AtSize = 68
framing_left (Inside n) = if n == 0 then 71 else 3
framing_left Last = 3
framing_left Over = 0

-- a bound on the pieces and readings to the end of a line: each piece that is passed lowers it, and so does each byte
-- read
abbrev pub steps_left : ReaderData → ℕ
steps_left reader =
    100 * (reader.most + 1 - length reader.part) + framing_left reader.place + (most_head - length reader.kept)

-- within a line, a reader went on over some of what it keeps
pub record Moves (old new : ReaderData) : Type 0 where
  pub goes : GoesOn old old.kept new
  pub nearer : steps_left new < steps_left old
