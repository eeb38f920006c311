use Rattle.std.proofs.Common.{take}
use Rattle.mirror_log.specs.Slots.{Hold, puts}
use Rattle.mirror_log.proofs.slots.put_all.Given as goal

-- the rows so far are put
abbrev pub invariant-loop-row : goal.invariant-loop-row
invariant-loop-row l = Hold l.slots.entries (puts l.resource l.from (take l.row-index l.rows))
