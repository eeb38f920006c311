use Rattle.serde_json.specs.View.{items_view}
use Rattle.watch_lines.proofs.PageLemmas.{AreBehind, from}
use Rattle.watch_lines.proofs.pages.rows_of.Given as goal

-- behind the rows so far stand those of the items that are left
abbrev pub invariant-loop-item : goal.invariant-loop-item
invariant-loop-item l = AreBehind l.resource (items_view l.items) (from l.items l.item-index) l.rows.items
