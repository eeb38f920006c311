use Rattle.std.proofs.Common.{◌≡◌, take, drop}
use Rattle.up_store.proofs.kept.Kept.copied.Given as goal

-- the revisions so far
abbrev pub invariant-loop-i : goal.invariant-loop-i
invariant-loop-i l = l.list.items ≡ drop l.start (take l.i l.self.revisions.items)
