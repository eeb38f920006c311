use Rattle.std.proofs.Common.{◌≡◌, ℕ, List, take, is_some}
use Rattle.kube_meta.specs.Rows.{row_with}
use Rattle.mirror_log.specs.Intakes.{has}
use Rattle.mirror_log.proofs.keys.keys_of.Given as goal

-- the keys so far
abbrev pub invariant-loop-row : goal.invariant-loop-row
invariant-loop-row l = (key : List ℕ) → has l.keys key ≡ is_some (row_with (take l.row-index l.rows) key)
