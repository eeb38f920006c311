use Rattle.std.proofs.Common.{◌≡◌, drop}
use Rattle.serde_json.specs.View.{items_view}
use Rattle.watch_lines.specs.Troubles.{bad_item}
use Rattle.watch_lines.proofs.trouble.bad_item.Given as goal

-- what is told of all items is told of those that are left
abbrev pub invariant-loop-item : goal.invariant-loop-item
invariant-loop-item l = bad_item l.resource (items_view l.items) ≡ bad_item l.resource (items_view (drop l.item-index l.items))
