use Rattle.std.proofs.Common.{◌≡◌, drop, nat_le}
use Rattle.serde_json.specs.Data.{items_depth, members_depth}
use Rattle.serde_json.specs.View.{items_view, members_view}
use Rattle.watch_lines.proofs.plain.+nesting.Given as goal

-- what is left fits where all of it does
abbrev pub invariant-items_nest_within-loop-item : goal.invariant-items_nest_within-loop-item
invariant-items_nest_within-loop-item l = nat_le (items_depth (items_view l.item-items)) l.room ≡ nat_le (items_depth (items_view (drop l.item-index l.item-items))) l.room

abbrev pub invariant-members_nest_within-loop-member : goal.invariant-members_nest_within-loop-member
invariant-members_nest_within-loop-member l = nat_le (members_depth (members_view l.members.entries)) l.room ≡ nat_le (members_depth (members_view l.member-iterator)) l.room
