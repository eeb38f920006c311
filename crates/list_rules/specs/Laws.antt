-- Laws of pages.
use Rattle.std.specs.Prelude.{◌≡◌, ℕ, List, Option}
use Rattle.kube_meta.specs.Rows.{RowData, behind}
use Rattle.rev_log.specs.Logs.{Log}
use Rattle.select_all.specs.declared.selection.Selection.{Selection}
use Rattle.select_all.specs.Listings.{IsListing}
use Rattle.list_rules.specs.Pages.{left_of, Page, IsPage, IsLeft, Follow, joined_rows}

-- The pages of a list at one revision, each with a limit of its own, from any key on or from the start: joined, they are
-- the whole list behind that key.
abbrev pub PagesJoin : Type 0
PagesJoin =
    (log : Log) (s : Selection) (at : ℕ) (list : List RowData) (after : Option (List ℕ)) (page : Page) (more : List Page) →
    IsListing log s at list → Follow list after page more → joined_rows page more ≡ behind after list

-- what is counted as left behind a page is
abbrev pub LeftsAreCounted : Type 0
LeftsAreCounted =
    (log : Log) (s : Selection) (at : ℕ) (list : List RowData) (after : Option (List ℕ)) (page : Page) →
    IsListing log s at list → IsPage list after page → IsLeft list after page (left_of page.limit (behind after list))
