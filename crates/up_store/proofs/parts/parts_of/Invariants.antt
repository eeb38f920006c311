use Rattle.std.proofs.Common.{◌≡◌, take}
use Rattle.std.specs.List.{filter_map}
use Rattle.up_api.specs.Feeds.{part_of}
use Rattle.up_store.proofs.parts.parts_of.Given as goal

-- the parts so far
abbrev pub invariant-loop-revision : goal.invariant-loop-revision
invariant-loop-revision l = l.parts.items ≡ filter_map (part_of l.resource) (take l.revision-index l.revisions)
