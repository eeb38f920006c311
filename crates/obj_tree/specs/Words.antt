-- The words of rows' objects, and the rows whose words have the bits of a mask.
use Rattle.std.specs.Prelude.{◌≡◌, ℕ, ◌/◌, ◌%◌, ◌<◌, ◌≤◌, true, false, List, [], ◌∷◌, map, length, slice_index, slice_index_or, if◌then◌else◌}
use Rattle.std.specs.declared.sync.Arc.{Arc}
use Rattle.kube_meta.specs.Rows.{RowData}
use Rattle.kube_meta.specs.Words.{has_bits, labels_word, fields_word, fits}
use Rattle.kube_meta.specs.declared.words.Mask.{Mask}

-- the words of the labels of the rows that shared pointers point to
abbrev pub labels_of : {Z : Type 0} → List (Arc RowData Z) → List ℕ
labels_of pointers = map (λ pointer. labels_word pointer.value.obj.labels) pointers

-- and those of their listed fields
abbrev pub fields_of : {Z : Type 0} → List (Arc RowData Z) → List ℕ
fields_of pointers = map (λ pointer. fields_word pointer.value.obj.fields) pointers

-- the rows from the first one on that fits a mask
abbrev pub from_fit : Mask → List RowData → List RowData
from_fit mask [] = []
from_fit mask (row ∷ rows) = if fits mask row.obj then row ∷ rows else from_fit mask rows

-- so many rows don't fit a mask; where it is none, the first one fits, if there is one
pub record AreUnfit (mask : Mask) (rows : List RowData) (count : ℕ) : Type 0 where
  pub inside : count ≤ length rows
  pub unfit : (k : ℕ) (d : RowData) → k < count → fits mask (slice_index_or rows k d).obj ≡ false
  pub first : (d : RowData) → count ≡ 0 → 0 < length rows → fits mask (slice_index_or rows 0 d).obj ≡ true

-- what is left once some rows that don't fit a mask are passed over
pub record Passes (mask : Mask) (rows rest : List RowData) : Type 0 where
  pub same : from_fit mask rest ≡ from_fit mask rows
  pub fewer : length rest < length rows

-- ---- words that stand next to each other

-- which of the fours the word at a place is in
abbrev pub four_at : ℕ → ℕ
four_at at = at / 4 % 16

-- each four has the bits of its words
abbrev pub HaveFours : List ℕ → List ℕ → Type 0
HaveFours fours words = (k : ℕ) → k < length words → has_bits (slice_index fours (four_at k)) (slice_index words k) ≡ true

-- the place of the first word from a place on that has each bit of a mask, or the end
pub record IsFirstWith (mask : ℕ) (words : List ℕ) (from at : ℕ) : Type 0 where
  pub behind : from ≤ at
  pub inside : at ≤ length words
  pub lack : (k : ℕ) → from ≤ k → k < at → has_bits (slice_index words k) mask ≡ false
  pub has : at < length words → has_bits (slice_index words at) mask ≡ true
