use Rattle.std.proofs.Common.{◌≡◌, ℕ, List, take, not}
use Rattle.std.specs.Prelude.{◌&&◌}
use Rattle.mirror_log.specs.Intakes.{has, tells}
use Rattle.mirror_log.proofs.keys.take_out.Given as goal

-- the keys of the lines so far are taken out
abbrev pub invariant-loop-line : goal.invariant-loop-line
invariant-loop-line l = (key : List ℕ) → has l.keys key ≡ (has l.fn.keys key && not (tells l.kind (take l.line-index l.kept) key))
