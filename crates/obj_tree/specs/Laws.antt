-- Laws of maps.
use Rattle.std.specs.Prelude.{◌≡◌, ℕ, List, None, Some, bytes_eq, if◌then◌else◌}
use Rattle.kube_meta.specs.Rows.{RowData, key_of, AreRising, row_with}
use Rattle.obj_tree.specs.Maps.{with_row, without}

-- with a row its key has it, and every other key what it had
abbrev pub PutsAreUpdates : Type 0
PutsAreUpdates =
    (rows : List RowData) (row : RowData) (key : List ℕ) →
    row_with (with_row rows row) key ≡ (if bytes_eq key (key_of row) then Some row else row_with rows key)

-- without a key that key has no row, and every other key what it had
abbrev pub RemovalsAreUpdates : Type 0
RemovalsAreUpdates =
    (rows : List RowData) (gone key : List ℕ) →
    row_with (without rows gone) key ≡ (if bytes_eq key gone then None else row_with rows key)

-- the keys go on rising
abbrev pub PutsStayRising : Type 0
PutsStayRising = (rows : List RowData) (row : RowData) → AreRising rows → AreRising (with_row rows row)

abbrev pub RemovalsStayRising : Type 0
RemovalsStayRising = (rows : List RowData) (gone : List ℕ) → AreRising rows → AreRising (without rows gone)
