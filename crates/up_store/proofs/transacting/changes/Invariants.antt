use Rattle.std.proofs.Common.{◌≡◌, map, take}
use Rattle.up_store.specs.Writes.{change_of}
use Rattle.up_store.proofs.transacting.changes.Given as goal

-- the changes so far
abbrev pub invariant-loop-i : goal.invariant-loop-i
invariant-loop-i l = l.changes.items ≡ map (change_of l.rev) (take l.i l.asks)
