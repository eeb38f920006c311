use Rattle.std.proofs.Common.{◌≡◌, take}
use Rattle.up_api.specs.Feeds.{changes_of}
use Rattle.up_store.proofs.parts.part.Given as goal

-- the changes of the resource so far
abbrev pub invariant-loop-change : goal.invariant-loop-change
invariant-loop-change l = l.changes.items ≡ changes_of l.resource (take l.change-index l.revision.changes)
