-- A row as plain data: an object, and the revision at which it was written. Rows of a state stand in the order of their keys.
use Rattle.std.specs.Prelude.{ℕ, Bool, List, map, filter, Option, None, Some, find, bytes_eq}
use Rattle.std.specs.Cmp.Lexicographic.{slice_cmp}
use Rattle.std.specs.List.Sorted.{IsStrictlySortedBy}
use Rattle.std.specs.Ordering.{nat_cmp, is_lt}
use Rattle.kube_meta.specs.declared.objects.Obj.{Obj}
use Rattle.kube_meta.specs.Keys.{is_in}

-- a row: an object, and the revision at which it was written
pub record RowData : Type 0 where
  pub obj : Obj
  pub rev : ℕ

-- the key of a row: that of its object, by which the rows of a state are sorted
abbrev pub key_of : RowData → List ℕ
key_of row = row.obj.key

-- the keys rise byte by byte, so no key comes twice
abbrev pub AreRising : List RowData → Type 0
AreRising rows = IsStrictlySortedBy (slice_cmp nat_cmp) (map key_of rows)

-- the first row with the key, if there is one
abbrev pub row_with : List RowData → List ℕ → Option RowData
row_with rows key = find (λ row. bytes_eq key (key_of row)) rows

-- a row stands behind a key, in the byte order of keys
abbrev pub is_behind : List ℕ → RowData → Bool
is_behind key row = is_lt (slice_cmp nat_cmp key (key_of row))

-- the rows behind a key, where one is given
abbrev pub behind : Option (List ℕ) → List RowData → List RowData
behind None rows = rows
behind (Some key) rows = filter (is_behind key) rows

-- the rows of one namespace
abbrev pub within : List ℕ → List RowData → List RowData
within ns rows = filter (λ row. is_in ns (key_of row)) rows
