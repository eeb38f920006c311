use Rattle.std.proofs.Common.{◌≡◌, ◌+◌, ◌≤◌, take, drop}
use Rattle.std.specs.List.{filter_map}
use Rattle.up_api.specs.Feeds.{part_of, changes_in}
use Rattle.up_store.proofs.kept.Kept.poll.Given as goal

-- the parts so far, and how many changes are wanted still
abbrev pub invariant-loop-i : goal.invariant-loop-i
invariant-loop-i l = record {
  parts : l.revisions.items ≡ filter_map (part_of l.resource) (drop l.start (take l.i l.self.revisions.items));
  wanted : changes_in l.revisions.items + l.wanted ≡ l.max;
  some : 1 ≤ l.wanted;
}
