use Rattle.std.proofs.Common.{◌≡◌, take}
use Rattle.mirror_log.specs.Bridges.{gone}
use Rattle.mirror_log.proofs.find.gone_rows.Given as goal

-- those of the rows so far
abbrev pub invariant-loop-row : goal.invariant-loop-row
invariant-loop-row l = l.list.items ≡ gone (take l.row-index l.old) l.rows
