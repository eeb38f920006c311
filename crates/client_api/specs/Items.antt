-- The rows of the objects that a list answers.
use Rattle.std.specs.Prelude.{List, map}
use Rattle.kube_meta.specs.Rows.{RowData}
use Rattle.client_api.specs.declared.items.Items.{Items}
use Rattle.client_api.specs.declared.items.Items.TheVariants as items
use Rattle.client_api.specs.declared.items.ItemRows.{ItemRows}
use Rattle.client_api.specs.declared.items.ItemRows.TheVariants as left

-- those of the objects that are shared, or all of a snapshot
abbrev pub rows_of : Items → List RowData
rows_of (items.Picked shown) = map (λ s. s.value) shown.items
rows_of (items.All rows) = rows

-- those that are still to come
abbrev pub rows_left : ItemRows → List RowData
rows_left (left.Picked shown) = map (λ s. s.value) shown.now
rows_left (left.All rows) = rows
