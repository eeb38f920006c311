-- How many lines are good behind one row of a listing.
use Rattle.std.specs.Prelude.{◌≡◌, ℕ, ◌≤◌, List, [], ◌∷◌, ◌++◌, length, take, drop, map, IsTrue, Option, MatchOption}
use Rattle.kube_meta.specs.Rows.{RowData}
use Rattle.select_all.specs.Listings.{listing}
use Rattle.select_all.specs.Selecting.{selects}
use Rattle.watch_record.specs.declared.records.Record.{Record}
use Rattle.watch_rules.specs.Bodies.{Told, initial, initial_lines}
use Rattle.body_check.specs.Courses.{text_in}
use Rattle.body_check.specs.Findings.{BeginsOtherwise}

-- the texts of rows, where these are selected
abbrev pub texts_of_rows : Record → List RowData → List (List ℕ)
texts_of_rows case rows = map (text_in case) (initial_lines (listing case.ask.selection rows))

-- The row is selected, and the next line isn't its initial event.
pub record IsMissed (case : Record) (n : ℕ) (row : RowData) : Type 0 where
  pub chosen : IsTrue (selects case.ask.selection row.obj)
  pub otherwise : BeginsOtherwise (text_in case (Told (initial row))) (drop n case.lines.items)

-- So many lines are good, with that of the row, if it is selected.
pub record IsReached (case : Record) (n : ℕ) (row : RowData) (next : ℕ) : Type 0 where
  pub within : next ≤ length case.lines.items
  pub agree : take next case.lines.items ≡ take n case.lines.items ++ texts_of_rows case (row ∷ [])

abbrev pub IsPlaced : Record → ℕ → RowData → Option ℕ → Type 0
IsPlaced case n row next = MatchOption next (IsMissed case n row) (λ m. IsReached case n row m)
