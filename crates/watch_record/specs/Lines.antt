-- A record's bytes as lines, each ended by a line feed: the first one; those of the log; and behind an empty one those of the body.
use Rattle.std.specs.Prelude.{ℕ, ◌-◌, ◌==◌, Bool, false, List, [], ◌∷◌, length, Option, Some, None, option_map, slice_get}
use Rattle.std.specs.Option.{option_map_or}
use Rattle.std.specs.List.{slice_split, before_first, after_first}

-- a line feed, which ends a line
abbrev pub is_feed : ℕ → Bool
is_feed b = b == 10

-- all but the last
abbrev pub ended : List (List ℕ) → List (List ℕ)
ended [] = []
ended (last ∷ []) = []
ended (line ∷ next ∷ lines) = line ∷ ended (next ∷ lines)

-- the lines of bytes, each up to its line feed
abbrev pub lines_in : List ℕ → List (List ℕ)
lines_in bytes = ended (slice_split is_feed bytes)

-- the first line: all bytes where there is no line feed
abbrev pub first_line : List ℕ → List ℕ
first_line bytes = before_first is_feed bytes

-- the lines behind it
abbrev pub later_lines : List ℕ → List (List ℕ)
later_lines bytes = lines_in (after_first is_feed bytes)

-- the lines before the first empty one, and those behind it
pub record Parts : Type 0 where
  pub log : List (List ℕ)
  pub body : List (List ℕ)

-- the parts with one more line at the front of the log
abbrev pub with_line : List ℕ → Parts → Parts
with_line line parts = record parts { log = line ∷ parts.log }

-- the log's lines and the body's, which the first empty line parts; nothing where there is none
abbrev pub parts_of : List (List ℕ) → Option Parts
parts_of [] = None
parts_of ([] ∷ lines) = Some (record { log = []; body = lines })
parts_of ((b ∷ line) ∷ lines) = option_map (with_line (b ∷ line)) (parts_of lines)

-- the last byte is a line feed
abbrev pub is_ended : List ℕ → Bool
is_ended bytes = option_map_or is_feed (slice_get bytes (length bytes - 1)) false
