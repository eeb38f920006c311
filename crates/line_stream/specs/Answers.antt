-- What a reader of lines answers.
use Rattle.std.specs.Prelude.{◌≡◌, ◌≢◌, ℕ, List, [], Option, Some, Result, Ok, Err, ⊤}
use Rattle.edge_io.specs.Told.{IsExhausted}
use Rattle.edge_io.specs.Counts.{Rose}
use Rattle.line_stream.specs.Readers.{ReaderData, LinesData, GoesOn, ReadsText, IsReaderRefused, IsOpen}
use Rattle.line_stream.specs.declared.place.Place.TheVariants as place
use Rattle.line_stream.specs.declared.lines.Step.{Step}
use Rattle.line_stream.specs.declared.lines.Step.TheVariants.{Line, Over}
use Rattle.line_stream.specs.declared.refusal.LineNo.{LineNo}
use Rattle.line_stream.specs.declared.refusal.LineNo.TheVariants.{BadHead, Refused, BadChunk, Overlong, Unfinished, Spent, CutShort, ReadFault, Memory}

-- a reader has no line, for this reason; `left` is what is still to come
abbrev pub Faults : ReaderData → Option (List ℕ) → LineNo → Type 0
Faults reader left BadHead = ⊥
Faults reader left (Refused code) = ⊥
Faults reader left BadChunk = IsReaderRefused reader BadChunk
Faults reader left Overlong = IsReaderRefused reader Overlong
Faults reader left Unfinished = IsReaderRefused reader Unfinished
Faults reader left Spent = IsReaderRefused reader Spent
Faults reader left CutShort = IsOpen reader × IsExhausted left
Faults reader left ReadFault = IsOpen reader
Faults reader left Memory = ⊤

-- what the reading of a line answers, over the bytes that were kept and those that were taken: the line; or the end
-- of the body, behind whole lines; or why there is none, and then the reader stands where that shows
abbrev pub AnswersLine : LinesData → List ℕ → LinesData → Option (List ℕ) → Result Step LineNo → Type 0
AnswersLine old bytes new left (Ok Line) = ReadsText old.at bytes new.line new.at
AnswersLine old bytes new left (Ok Over) =
    GoesOn old.at bytes new.at × (new.at.room ≢ Some 0) × (new.at.place ≡ place.Over) × (new.at.part ≡ [])
    × (new.line ≡ old.line)
AnswersLine old bytes new left (Err why) =
    GoesOn old.at bytes new.at × Faults new.at left why × (new.line ≡ old.line)

-- a fault of the source was counted where the answer is one, and no other
abbrev pub Counts : {A : Type 0} → Result A LineNo → ℕ → ℕ → Type 0
Counts (Ok answer) old_faults new_faults = new_faults ≡ old_faults
Counts (Err BadHead) old_faults new_faults = new_faults ≡ old_faults
Counts (Err (Refused code)) old_faults new_faults = new_faults ≡ old_faults
Counts (Err BadChunk) old_faults new_faults = new_faults ≡ old_faults
Counts (Err Overlong) old_faults new_faults = new_faults ≡ old_faults
Counts (Err Unfinished) old_faults new_faults = new_faults ≡ old_faults
Counts (Err Spent) old_faults new_faults = new_faults ≡ old_faults
Counts (Err CutShort) old_faults new_faults = new_faults ≡ old_faults
Counts (Err ReadFault) old_faults new_faults = Rose old_faults new_faults
Counts (Err Memory) old_faults new_faults = new_faults ≡ old_faults
