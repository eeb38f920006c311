-- Where a key stands among pages.
use Rattle.std.specs.Prelude.{ℕ, List, MatchResult}
use Rattle.kube_meta.specs.Rows.{RowData}
use Rattle.obj_tree.specs.Pages.{page_at, IsPageFor, IsRowAt, IsGapAt}
use Rattle.obj_tree.specs.declared.search.Place.{Place}

pub record IsPlace (pages : List (List RowData)) (key : List ℕ) (place : Place) : Type 0 where
  pub page_is : IsPageFor pages key place.page
  pub row_is : MatchResult place.row (IsRowAt (page_at pages place.page) key) (IsGapAt (page_at pages place.page) key)
