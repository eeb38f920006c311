use Rattle.std.proofs.Common.{ℕ, ◌<◌, ◌≤◌, length}
use Rattle.mirror_log.specs.Slots.{slot_at}
use Rattle.mirror_log.proofs.slots.with_room.Given as goal

-- the revisions so far have no room
abbrev pub invariant-loop-rev : goal.invariant-loop-rev
invariant-loop-rev l = (rev : ℕ) → l.from ≤ rev → rev < l.rev → 64 ≤ length (slot_at l.slots.entries rev)
