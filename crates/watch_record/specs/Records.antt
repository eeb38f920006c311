-- Which bytes are a record, and of what.
use Rattle.std.specs.Prelude.{◌≡◌, ℕ, ◌+◌, Bool, true, false, ◌&&◌, ◌||◌, nat_lt, nat_le, List, length, Option, Some, None, option_map, if◌then◌else◌}
use Rattle.std.specs.Option.{option_map_or, option_or}
use Rattle.std.specs.Str.{is_utf8}
use Rattle.watch_record.specs.Lines.{Parts, first_line, later_lines, parts_of, is_ended}
use Rattle.watch_record.specs.Headers.{header_of}
use Rattle.watch_record.specs.Revisions.{bad_place, AreRevisionsOf}
use Rattle.watch_record.specs.Asking.{is_asked, IsAskOf}
use Rattle.watch_record.specs.declared.header.Header.{Header}
use Rattle.watch_record.specs.declared.records.Record.{Record}
use Rattle.watch_record.specs.declared.refusals.RecordNo.{RecordNo}
use Rattle.watch_record.specs.declared.refusals.RecordNo.TheVariants.{TooLong, BadHeader, NoBody, BadLog, BadFloor, BadAsk}

-- ---- why bytes are none: the first reason that holds

-- how many bytes a record has at most: 64 MiB
abbrev pub max_bytes : ℕ
max_bytes = 67108864

-- how many revisions its log has at most, each on a line
abbrev pub max_revisions : ℕ
max_revisions = 10000

-- of how many lines stand before the first empty one, if there is one
abbrev pub has_long_log : Option ℕ → Bool
has_long_log revisions = option_map_or (nat_lt max_revisions) revisions false

-- the bytes are more than a record may have, or have a log of more revisions than one may have
abbrev pub is_too_long : List ℕ → Bool
is_too_long bytes =
    nat_lt max_bytes (length bytes) || has_long_log (option_map (λ (parts : Parts). length parts.log) (parts_of (later_lines bytes)))

-- the floor is from the first revision to the last
abbrev pub has_floor : Header → ℕ → Bool
has_floor header revisions = nat_le header.first header.floor && nat_le header.floor (header.first + revisions)

-- of a header with so many revisions
abbrev pub ask_fault : Header → ℕ → Option RecordNo
ask_fault header revisions = if has_floor header revisions then (if is_asked header then None else Some BadAsk) else Some BadFloor

-- of a header and the lines of a log
abbrev pub log_fault : Header → List (List ℕ) → Option RecordNo
log_fault header log = option_or (option_map (λ line. BadLog line) (bad_place (header.first + 1) log)) (ask_fault header (length log))

-- of a header, the parts behind it, and whether the last line is ended
abbrev pub header_fault : Option Header → Option Parts → Bool → Option RecordNo
header_fault None parts ended = Some BadHeader
header_fault (Some header) None ended = Some NoBody
header_fault (Some header) (Some parts) false = Some NoBody
header_fault (Some header) (Some parts) true = log_fault header parts.log

-- why a text is no record: by its first line, and by the lines behind that
abbrev pub text_fault : List ℕ → Option RecordNo
text_fault text = header_fault (header_of (first_line text)) (parts_of (later_lines text)) (is_ended text)

-- the first reason why bytes are no record; nothing where they are one
abbrev pub record_fault : List ℕ → Option RecordNo
record_fault bytes = if is_too_long bytes then Some TooLong else (if is_utf8 bytes then text_fault bytes else Some BadHeader)

-- ---- what is read

-- the header's numbers and ask, the revisions that the log's lines tell, and the body's lines
pub record IsReadOf (header : Header) (parts : Parts) (case : Record) : Type 0 where
  pub first_is : case.first ≡ header.first
  pub floor_is : case.floor ≡ header.floor
  pub window_is : case.window ≡ header.window
  pub log : AreRevisionsOf (header.first + 1) parts.log case.log.items
  pub ask : IsAskOf header case.ask
  pub lines : case.lines.items ≡ parts.body

-- of the header in the first line, and of the lines behind it
pub record IsRecordOf (bytes : List ℕ) (case : Record) : Type 0 where
  pub header : Header
  pub header_is : header_of (first_line bytes) ≡ Some header
  pub parts : Parts
  pub parts_are : parts_of (later_lines bytes) ≡ Some parts
  pub read_is : IsReadOf header parts case
