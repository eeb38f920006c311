use Rattle.std.proofs.Common.{◌≡◌, map, take}
use Rattle.up_store.specs.Transacting.{object_in}
use Rattle.up_store.specs.Writes.{new_object}
use Rattle.up_store.proofs.transacting.share_all.Given as goal

-- the objects so far
abbrev pub invariant-loop-ask : goal.invariant-loop-ask
invariant-loop-ask l = map object_in l.all.items ≡ map new_object (take l.ask-index l.asks)
