-- Pages of a list, and how they follow each other.
use Rattle.std.specs.Prelude.{◌≡◌, ℕ, zero, suc, ◌+◌, ◌-◌, ◌<◌, ◌==◌, ◌&&◌, Bool, List, [], ◌∷◌, ◌++◌, length, take, Option, None, Some, nat_lt, slice_get, option_map, if◌then◌else◌}
use Rattle.kube_meta.specs.Rows.{RowData, key_of, behind}
use Rattle.select_all.specs.declared.selection.Selection.{Selection}

-- the first `limit` of the rows from where a page begins; 0 is no limit
abbrev pub page_of : ℕ → List RowData → List RowData
page_of zero rows = rows
page_of (suc n) rows = take (suc n) rows

-- the key that the next page begins behind: the last one of this page, where rows are left
abbrev pub next_of : ℕ → List RowData → Option (List ℕ)
next_of zero rows = None
next_of (suc n) rows = if nat_lt (suc n) (length rows) then option_map key_of (slice_get rows n) else None

-- how many of the rows from where a page begins are left behind it; without a limit none are
abbrev pub left_of : ℕ → List RowData → ℕ
left_of zero rows = 0
left_of (suc n) rows = length rows - suc n

-- neither selector of the selection has a requirement
abbrev pub is_unrestricted : Selection → Bool
is_unrestricted s = (length s.labels == 0) && (length s.fields == 0)

-- the `remainingItemCount` of a page with so many rows behind it; none is told where the selection has a requirement
abbrev pub remaining_of : Selection → ℕ → Option ℕ
remaining_of s left = if is_unrestricted s then Some left else None

-- a page as it was answered: what limit was asked, its rows, and the key in its token, if it has one
pub record Page : Type 0 where
  pub limit : ℕ
  pub rows : List RowData
  pub next : Option (List ℕ)

-- the page of a list behind a key
pub record IsPage (list : List RowData) (after : Option (List ℕ)) (page : Page) : Type 0 where
  pub rows_are : page.rows ≡ page_of page.limit (behind after list)
  pub next_is : page.next ≡ next_of page.limit (behind after list)

-- Pages that follow each other's tokens: each is the one behind the token of the one before, and the last has none.
abbrev pub Follow : List RowData → Option (List ℕ) → Page → List Page → Type 0
Follow list after page [] = IsPage list after page × (page.next ≡ None)
Follow list after page (another ∷ more) =
    IsPage list after page × ((key : List ℕ) × ((page.next ≡ Some key) × Follow list (Some key) another more))

-- the rows of all of them
abbrev pub joined_rows : Page → List Page → List RowData
joined_rows page [] = page.rows
joined_rows page (another ∷ more) = page.rows ++ joined_rows another more

-- This many rows are left behind a page of a list: with its own they are all from where it begins; they are those
-- behind the key of its token; and it has a token exactly where some are left.
pub record IsLeft (list : List RowData) (after : Option (List ℕ)) (page : Page) (left : ℕ) : Type 0 where
  pub rest : length page.rows + left ≡ length (behind after list)
  pub more : (key : List ℕ) → page.next ≡ Some key → (0 < left) × (left ≡ length (behind (Some key) list))
  pub end_is : page.next ≡ None → left ≡ 0
