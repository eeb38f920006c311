-- Rows in parts that stand one behind the other: pages of 1 to 64 rows, of which any two neighbours hold more than 32
-- together, and nodes of such pages. A part is seen as the list of its rows.
use Rattle.std.specs.Prelude.{◌≡◌, ℕ, suc, ◌+◌, ◌-◌, ◌<◌, ◌≤◌, Bool, true, not, List, [], ◌∷◌, ◌++◌, map, length, take, drop, nat_lt, if◌then◌else◌, slice_index_or}
use Rattle.std.specs.List.{list_all}
use Rattle.std.specs.declared.sync.Arc.{Arc}
use Rattle.kube_meta.specs.Rows.{RowData, key_of, AreRising, is_behind}
use Rattle.obj_tree.specs.Maps.{is_below}

-- what the shared pointers point to
abbrev pub values_of : {X Z : Type 0} → List (Arc X Z) → List X
values_of pointers = map (λ pointer. pointer.value) pointers

-- the rows of the parts that shared pointers point to
abbrev pub parts_of : {X Z : Type 0} → (X → List RowData) → List (Arc X Z) → List (List RowData)
parts_of rows pointers = map (λ pointer. rows pointer.value) pointers

-- the rows of all parts, one part after the other
abbrev pub joined : List (List RowData) → List RowData
joined [] = []
joined (page ∷ pages) = page ++ joined pages

-- each part holds so many rows at least
abbrev pub HoldEach : ℕ → List (List RowData) → Type 0
HoldEach least [] = Unit {0}
HoldEach least (part ∷ parts) = (least ≤ length part) × HoldEach least parts

-- parts in the order of their keys, none of them empty
pub record AreParts (parts : List (List RowData)) : Type 0 where
  pub some : HoldEach 1 parts
  pub rising : AreRising (joined parts)

-- each page holds 1 to 64 rows
abbrev pub AreSized : List (List RowData) → Type 0
AreSized [] = Unit {0}
AreSized (page ∷ pages) = (0 < length page) × (length page ≤ 64) × AreSized pages

-- two neighbours hold more than 32 rows together
abbrev pub FullWith : List RowData → List (List RowData) → Type 0
FullWith page [] = Unit {0}
FullWith page (next ∷ pages) = 32 < length page + length next

abbrev pub AreFull : List (List RowData) → Type 0
AreFull [] = Unit {0}
AreFull (page ∷ pages) = FullWith page pages × AreFull pages

pub record IsPaged (pages : List (List RowData)) : Type 0 where
  pub sized : AreSized pages
  pub full : AreFull pages
  pub rising : AreRising (joined pages)

-- nodes of pages: none is empty, and one that isn't alone holds 512 rows at least
pub record IsNoded (nodes : List (List RowData)) : Type 0 where
  pub some : HoldEach 1 nodes
  pub large : 1 < length nodes → HoldEach 512 nodes
  pub rising : AreRising (joined nodes)

-- each page holds 48 rows, as those that are filled at once
abbrev pub AreFilled : List (List RowData) → Type 0
AreFilled [] = Unit {0}
AreFilled (page ∷ pages) = (length page ≡ 48) × AreFilled pages

-- pages that hold these rows
pub record ArePagesOf (pages : List (List RowData)) (rows : List RowData) : Type 0 where
  pub rows_are : joined pages ≡ rows
  pub sized : AreSized pages
  pub full : AreFull pages

-- the part at a place, and none past the end
abbrev pub page_at : List (List RowData) → ℕ → List RowData
page_at pages at = slice_index_or pages at []

-- the lists from one place up to another replaced by others
abbrev pub replaced : List (List RowData) → ℕ → ℕ → List (List RowData) → List (List RowData)
replaced pages from to others = take from pages ++ (others ++ drop to pages)

-- a row in place of those from one place up to another
abbrev pub row_put : List RowData → ℕ → ℕ → RowData → List RowData
row_put rows from to row = take from rows ++ row ∷ drop to rows

-- a page without the row at a place
abbrev pub row_gone : List RowData → ℕ → List RowData
row_gone rows at = take at rows ++ drop (at + 1) rows

-- a page that holds too many rows is two
abbrev pub divided : List RowData → List (List RowData)
divided page = if nat_lt 64 (length page) then take 32 page ∷ drop 32 page ∷ [] else page ∷ []

-- a page of so many rows holds at most 32 together with the one before a place, and with the one after it
abbrev pub FitsBefore : List (List RowData) → ℕ → ℕ → Type 0
FitsBefore pages at rows = (0 < at) × (length (page_at pages (at - 1)) + rows ≤ 32)

abbrev pub FitsAfter : List (List RowData) → ℕ → ℕ → Type 0
FitsAfter pages at rows = (at + 1 < length pages) × (length (page_at pages (at + 1)) + rows ≤ 32)

-- a part doesn't begin above a key
abbrev pub begins_by : List ℕ → List RowData → Bool
begins_by key [] = true
begins_by key (row ∷ rows) = not (is_behind key row)

-- the part at a place is the one in which a key stands, or would stand
pub record IsPageFor (pages : List (List RowData)) (key : List ℕ) (at : ℕ) : Type 0 where
  pub inside : at < length pages
  pub before : list_all (is_below key) (joined (take at pages)) ≡ true
  pub after : list_all (is_behind key) (joined (drop (suc at) pages)) ≡ true

-- the row at a place has the key
pub record IsRowAt (rows : List RowData) (key : List ℕ) (at : ℕ) : Type 0 where
  pub inside : at < length rows
  pub before : list_all (is_below key) (take at rows) ≡ true
  pub has_key : (row : RowData) → key_of (slice_index_or rows at row) ≡ key
  pub after : list_all (is_behind key) (drop (suc at) rows) ≡ true

-- no row has the key, and a place is where it would go
pub record IsGapAt (rows : List RowData) (key : List ℕ) (at : ℕ) : Type 0 where
  pub inside : at ≤ length rows
  pub before : list_all (is_below key) (take at rows) ≡ true
  pub after : list_all (is_behind key) (drop at rows) ≡ true

-- a place in the first page; where there is none, there are no nodes behind it either
abbrev pub IsWithin : ℕ → List (List RowData) → List (List RowData) → Type 0
IsWithin place [] nodes = (place ≡ 0) × (nodes ≡ [])
IsWithin place (page ∷ pages) nodes = place < length page
