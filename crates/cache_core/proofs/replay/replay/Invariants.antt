use Rattle.std.proofs.Common.{◌≡◌, ◌++◌, map, drop}
use Rattle.cache_core.specs.Steps.{rows_along, events_along}
use Rattle.cache_core.proofs.replay.replay.Given as goal

-- what was made, and then what the revisions that are left make, is what all of them make
abbrev pub invariant-loop-revision : goal.invariant-loop-revision
invariant-loop-revision l = record {
  rows : rows_along l.tree (drop l.revision-index l.revisions) ≡ rows_along l.initial.tree l.revisions;
  events : map (λ group. group.items) l.groups.items ++ events_along l.tree (drop l.revision-index l.revisions) ≡ events_along l.initial.tree l.revisions;
}
