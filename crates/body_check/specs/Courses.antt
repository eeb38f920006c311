-- What a start of a record is read by.
use Rattle.std.specs.Prelude.{◌≡◌, ℕ, max, List, [], ◌∷◌, map, if◌then◌else◌}
use Rattle.kube_meta.specs.Rows.{RowData}
use Rattle.meta_view.specs.declared.form.Form.TheVariants.{Whole}
use Rattle.rev_log.specs.Logs.{end_of}
use Rattle.select_all.specs.declared.selection.Selection.{Selection}
use Rattle.select_all.specs.Listings.{listing}
use Rattle.select_all.specs.Meanings.{IsAtLeast}
use Rattle.select_all.specs.Streams.{TransitionData, transitions}
use Rattle.watch_record.specs.declared.records.Record.{Record}
use Rattle.watch_rules.specs.Bodies.{Line, Told, Bookmark, Closing, Lost, opening_lines}
use Rattle.watch_rules.specs.declared.starts.Start.{Start}
use Rattle.watch_rules.specs.declared.starts.Start.TheVariants.{FromState, FromHere, FromRevision}
use Rattle.watch_lines.specs.Texts.{line_text}
use Rattle.body_check.specs.Judging.{record_log}
use Rattle.body_check.specs.Losses.{is_lost}
use Rattle.body_check.specs.Reading.{Course}

-- the text of a line
abbrev pub text_in : Record → Line → List ℕ
text_in case line = line_text Whole case.ask.selection.resource line

abbrev pub course_of : Record → ℕ → Course
course_of case at = record {
  told = λ t. text_in case (Told t);
  mark = λ p. text_in case (Bookmark p);
  lost = λ p floor. text_in case (Lost p floor);
  marks = case.ask.bookmarks;
  end = end_of (record_log case);
  stop = max at (end_of (record_log case));
  is_lost = is_lost (record_log case) case.floor case.window case.ask.selection.resource;
}

-- the transitions above a position
abbrev pub untold_at : Record → ℕ → List TransitionData
untold_at case at = transitions (record_log case) case.ask.selection at (end_of (record_log case))

-- the rows that are told at a start, where these stand
abbrev pub rows_told : Start → Selection → List RowData → List RowData
rows_told (FromState meaning) s rows = listing s rows
rows_told (FromHere meaning) s rows = []
rows_told (FromRevision revision) s rows = []

-- the closing bookmark, where one is asked for
abbrev pub closing_texts : Record → ℕ → List (List ℕ)
closing_texts case at = if case.ask.closing then text_in case (Closing at) ∷ [] else []

abbrev pub opening_texts : Record → ℕ → List RowData → List (List ℕ)
opening_texts case at rows = map (text_in case) (opening_lines case.ask at (rows_told case.ask.start case.ask.selection rows))

-- whether a start may be at a revision that the log has
abbrev pub Admits : Start → ℕ → Type 0
Admits (FromState meaning) at = IsAtLeast meaning at
Admits (FromHere meaning) at = IsAtLeast meaning at
Admits (FromRevision revision) at = at ≡ revision

-- a start that may be at any of several revisions
abbrev pub IsRanged : Start → Type 0
IsRanged (FromState meaning) = Unit {0}
IsRanged (FromHere meaning) = Unit {0}
IsRanged (FromRevision revision) = ⊥
