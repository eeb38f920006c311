use Rattle.std.proofs.Common.{◌≡◌, map, take}
use Rattle.up_store.specs.Shared.{shared_row, made_row}
use Rattle.up_store.proofs.revisions.rows_made.Given as goal

-- the rows of the changes so far
abbrev pub invariant-loop-change : goal.invariant-loop-change
invariant-loop-change l = map shared_row l.made.items ≡ map (made_row l.revision.rev) (take l.change-index l.revision.changes)
