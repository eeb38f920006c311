use Rattle.std.proofs.Common.{◌≡◌, ◌↔◌}
use Rattle.std.specs.BTreeMap.{values}
use Rattle.body_check.proofs.held.are_all.Given as goal

-- the lists are the same where what is left of them is
abbrev pub invariant-loop-stands : goal.invariant-loop-stands
invariant-loop-stands l = (l.list ≡ values l.rows) ↔ (l.left ≡ l.stands-iterator)
