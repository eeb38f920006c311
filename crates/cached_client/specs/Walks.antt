-- The rows that a selection may have.
use Rattle.std.specs.Prelude.{◌≡◌, true, List}
use Rattle.std.specs.List.{list_all}
use Rattle.kube_meta.specs.Rows.{RowData, key_of}
use Rattle.select_all.specs.declared.selection.Selection.{Selection}
use Rattle.select_all.specs.Selecting.{is_within}

-- all rows are in the selection's namespace, where it has one
abbrev pub AreWithin : Selection → List RowData → Type 0
AreWithin s rows = list_all (λ row. is_within s.ns (key_of row)) rows ≡ true
