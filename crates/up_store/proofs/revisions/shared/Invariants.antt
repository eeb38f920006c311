use Rattle.std.proofs.Common.{◌≡◌, ◌++◌}
use Rattle.up_store.proofs.revisions.shared.Given as goal

-- those that are shared, and then what is left, are the revisions
abbrev pub invariant-loop-revision : goal.invariant-loop-revision
invariant-loop-revision l = l.list.items ++ l.revision-iterator.rest.items ≡ l.fn.revisions.items
