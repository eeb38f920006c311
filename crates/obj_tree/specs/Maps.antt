-- The rows of one resource as a finite map: a list of rows whose keys rise.
use Rattle.std.specs.Prelude.{ℕ, Bool, List, ◌∷◌, ◌++◌, filter}
use Rattle.std.specs.Cmp.Lexicographic.{slice_cmp}
use Rattle.std.specs.Ordering.{nat_cmp, is_lt}
use Rattle.kube_meta.specs.Rows.{RowData, key_of, is_behind}

-- a row stands before a key, in the byte order of keys
abbrev pub is_below : List ℕ → RowData → Bool
is_below key row = is_lt (slice_cmp nat_cmp (key_of row) key)

abbrev pub below : List ℕ → List RowData → List RowData
below key rows = filter (is_below key) rows

abbrev pub above : List ℕ → List RowData → List RowData
above key rows = filter (is_behind key) rows

-- the rows with this one at its key
abbrev pub with_row : List RowData → RowData → List RowData
with_row rows row = below (key_of row) rows ++ row ∷ above (key_of row) rows

-- the rows with none at a key
abbrev pub without : List RowData → List ℕ → List RowData
without rows key = below key rows ++ above key rows
