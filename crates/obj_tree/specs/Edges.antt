-- Edges among keys, and the rows before them.
use Rattle.std.specs.Prelude.{◌≡◌, ℕ, ◌+◌, ◌≤◌, Bool, true, not, List, [], ◌∷◌, ◌++◌, length, take, drop, Option, None, Some}
use Rattle.std.specs.List.{list_all}
use Rattle.kube_meta.specs.Rows.{RowData, is_behind}
use Rattle.obj_tree.specs.Maps.{is_below}
use Rattle.obj_tree.specs.Pages.{joined, page_at}
use Rattle.obj_tree.specs.declared.edges.Edge.{Edge}
use Rattle.obj_tree.specs.declared.edges.Spot.{Spot}

-- an edge: a text and one more byte
abbrev pub edge_text : Edge → List ℕ
edge_text edge = edge.text.now ++ edge.next ∷ []

-- a row doesn't stand before an edge
abbrev pub is_from : List ℕ → RowData → Bool
is_from text row = not (is_below text row)

-- a row stands behind a key, where one is given
abbrev pub is_after : Option (List ℕ) → RowData → Bool
is_after None row = true
is_after (Some key) row = is_behind key row

-- a part doesn't begin at an edge or behind it
abbrev pub begins_below : List ℕ → List RowData → Bool
begins_below text [] = true
begins_below text (row ∷ rows) = is_below text row

-- so many rows stand before an edge: these, and no other
pub record AreBefore (text : List ℕ) (rows : List RowData) (count : ℕ) : Type 0 where
  pub inside : count ≤ length rows
  pub before : list_all (is_below text) (take count rows) ≡ true
  pub after : list_all (is_from text) (drop count rows) ≡ true

-- a place between two rows of a part, at its ends, or behind all
pub record IsSpot (parts : List (List RowData)) (spot : Spot) : Type 0 where
  pub part_is : spot.part ≤ length parts
  pub row_is : spot.row ≤ length (page_at parts spot.part)

-- how many rows stand before it
abbrev pub rows_before : List (List RowData) → Spot → ℕ
rows_before parts spot = length (joined (take spot.part parts)) + spot.row
