-- What a node keeps of its pages beside its pointers to them.
use Rattle.std.specs.Prelude.{◌≡◌, ℕ, ◌+◌, ◌<◌, false, List, [], ◌∷◌, map, length, slice_index, slice_index_or}
use Rattle.kube_meta.specs.Rows.{RowData}
use Rattle.kube_meta.specs.Words.{has_bits, fields_word}
use Rattle.obj_tree.specs.declared.mark.Mark.{Mark}
use Rattle.obj_tree.specs.Pages.{page_at, replaced}
use Rattle.obj_tree.specs.Words.{HaveFours}

-- the number of a page's rows, and the bits of each four of their fields' words
pub record IsMark (mark : Mark) (page : List RowData) : Type 0 where
  pub rows : mark.len ≡ length page
  pub fields : HaveFours mark.fours (map (λ row. fields_word row.obj.fields) page)

-- each mark is that of the page at its place, if there is one
abbrev pub AreMarks : List Mark → List (List RowData) → Type 0
AreMarks marks pages = (k : ℕ) (m : Mark) → k < length marks → k < length pages → IsMark (slice_index_or marks k m) (page_at pages k)

-- the first mark, if there is one, is that of the page
abbrev pub IsFirstMark : List Mark → List RowData → Type 0
IsFirstMark [] page = Unit {0}
IsFirstMark (mark ∷ marks) page = IsMark mark page

-- of pages, the one at a place alone is replaced, by any number of others
abbrev pub IsReplacedAt : List (List RowData) → ℕ → List (List RowData) → Type 0
IsReplacedAt old at new = (others : List (List RowData)) × (new ≡ replaced old at (at + 1) others)

-- no four has each bit of a mask
abbrev pub Lack : List ℕ → ℕ → Type 0
Lack fours mask = (k : ℕ) → k < 16 → has_bits (slice_index fours k) mask ≡ false
