-- The opening of a mirror: the rows of its peer, at a revision.
use Rattle.std.specs.Prelude.{◌≡◌, ℕ, ◌≤◌, ◌^◌, IsTrue, List, [], ◌∷◌, ◌++◌, All, None, IfSome}
use Rattle.kube_meta.specs.Names.{IsNamespace}
use Rattle.kube_meta.specs.declared.resources.Resource.TheVariants.{Pods}
use Rattle.kube_meta.specs.Rows.{RowData, AreRising}
use Rattle.line_stream.specs.Readers.{ReaderData, most_line}
use Rattle.select_all.specs.declared.selection.Selection.{Selection}
use Rattle.select_all.specs.Reading.{IsRead}
use Rattle.select_all.specs.Selecting.{selects}
use Rattle.watch_lines.specs.Stored.{IsStored}
use Rattle.watch_rules.specs.Bodies.{Line, Closing, initial_lines}

-- whose it is, with the texts of its selectors, its rows and the revision at which they stand, and where the reading of
-- the connection is
pub record OpeningData : Type 0 where
  pub selection : Selection
  pub label : List ℕ
  pub field : List ℕ
  pub rows : List RowData
  pub base : ℕ
  pub reading : ReaderData

-- rows that an opening may have: selected pods that may be stored, in the order of their keys
pub record AreOpened (s : Selection) (rows : List RowData) : Type 0 where
  pub rising : AreRising rows
  pub selected : All (λ row. IsTrue (selects s row.obj)) rows
  pub stored : All (λ row. IsStored Pods row.obj) rows

-- what holds of each opening: its selection is read from its texts; none of its rows is younger than its base; and its
-- reading goes on without a bound, with the limit of a line
pub record IsOpeningOf (opening : OpeningData) : Type 0 where
  pub pods : opening.selection.resource ≡ Pods
  pub read : IsRead Pods opening.selection.ns opening.label opening.field opening.selection
  pub namespace : IfSome opening.selection.ns IsNamespace
  pub some : 1 ≤ opening.base
  pub bounded : opening.base ≤ 2 ^ 62
  pub rows : AreOpened opening.selection opening.rows
  pub old : All (λ row. row.rev ≤ opening.base) opening.rows
  pub unbound : opening.reading.room ≡ None
  pub limit : opening.reading.most ≡ most_line

-- its lines: an event for each row, and the bookmark that ends them
abbrev pub opened_lines : OpeningData → List Line
opened_lines opening = initial_lines opening.rows ++ Closing opening.base ∷ []
