use Rattle.std.proofs.Common.{ℕ, ◌+◌, ◌<◌, ◌≤◌, List, length, take}
use Rattle.rev_log.specs.Changes.{ChangeData}
use Rattle.mirror_log.specs.Slots.{Hold, Remove, slot_at}
use Rattle.mirror_log.proofs.slots.remove_all.Given as goal

-- the rows so far are removed, and the revisions before the last that was used have no room
abbrev pub invariant-loop-row : goal.invariant-loop-row
invariant-loop-row l = record {
  after : l.from < l.at;
  inside : l.at ≤ l.to + 1;
  full : (rev : ℕ) → l.from < rev → rev < l.at → 64 ≤ length (slot_at l.slots.entries rev);
  removed : (changes : List ChangeData) → Hold l.fn.slots.entries changes → Remove l.resource l.from l.to changes (take l.row-index l.rows) l.slots.entries;
}
