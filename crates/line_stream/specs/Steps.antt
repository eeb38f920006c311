-- The steps in which a reader reads one line.
use Rattle.std.specs.Prelude.{◌≡◌, ◌≢◌, ◌⊎◌, ℕ, ◌<◌, List, [], ◌++◌, length, Option, Some, Result, Ok, Err}
use Rattle.edge_io.specs.Told.{prepended, IsExhausted}
use Rattle.edge_io.specs.Counts.{Rose}
use Rattle.line_stream.specs.Readers.{LinesData, ReadsText, IsReaderRefused, IsOpen}
use Rattle.line_stream.specs.Moves.{Moves}
use Rattle.line_stream.specs.declared.place.Place.TheVariants as place
use Rattle.line_stream.specs.declared.lines.Advance.{Advance}
use Rattle.line_stream.specs.declared.lines.Advance.TheVariants as advance
use Rattle.line_stream.specs.declared.refusal.LineNo.{LineNo}
use Rattle.line_stream.specs.declared.refusal.LineNo.TheVariants.{BadHead, Refused, BadChunk, Overlong, Unfinished, Spent, CutShort, ReadFault, Memory}

-- what a step answers that reads nothing from a source
abbrev pub Advances : LinesData → LinesData → Result Advance LineNo → Type 0
Advances old new (Ok advance.Passed) = Moves old.at new.at × (new.line ≡ old.line)
Advances old new (Ok advance.Line) = ReadsText old.at old.at.kept new.line new.at
Advances old new (Ok advance.Over) =
    (new ≡ old) × (old.at.room ≢ Some 0) × (old.at.place ≡ place.Over) × (old.at.part ≡ [])
Advances old new (Ok advance.Open) = (new ≡ old) × IsOpen old.at
Advances old new (Err why) = (new ≡ old) × (IsReaderRefused old.at why ⊎ (why ≡ Memory))

-- what a reader holds after it took these bytes
abbrev pub filled : LinesData → List ℕ → LinesData
filled reader came = record reader { at = record reader.at { kept = reader.at.kept ++ came } }

-- why no bytes came
abbrev pub GivesNone : Option (List ℕ) → ℕ → ℕ → LineNo → Type 0
GivesNone left old_faults new_faults BadHead = ⊥
GivesNone left old_faults new_faults (Refused code) = ⊥
GivesNone left old_faults new_faults BadChunk = ⊥
GivesNone left old_faults new_faults Overlong = ⊥
GivesNone left old_faults new_faults Unfinished = ⊥
GivesNone left old_faults new_faults Spent = ⊥
GivesNone left old_faults new_faults CutShort = IsExhausted left × (new_faults ≡ old_faults)
GivesNone left old_faults new_faults ReadFault = Rose old_faults new_faults
GivesNone left old_faults new_faults Memory = new_faults ≡ old_faults

-- what the reading of more bytes answers
abbrev pub Fills : LinesData → LinesData → Option (List ℕ) → Option (List ℕ) → ℕ → ℕ → Result (Unit {0}) LineNo → Type 0
Fills old new old_left left old_faults new_faults (Ok u) =
    (came : List ℕ) × (0 < length came) × (new ≡ filled old came) × (old_left ≡ prepended came left) × (new_faults ≡ old_faults)
Fills old new old_left left old_faults new_faults (Err why) =
    (new ≡ old) × (old_left ≡ left) × GivesNone left old_faults new_faults why
