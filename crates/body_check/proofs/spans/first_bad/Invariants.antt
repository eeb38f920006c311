use Rattle.std.proofs.Common.{ℕ, Option, drop}
use Rattle.kube_meta.specs.Rows.{AreRising}
use Rattle.body_check.specs.Heard.{AreOnward, IsFirstAgainst}
use Rattle.body_check.proofs.spans.first_bad.Given as goal

-- what is found of the lists that are left is found of all
abbrev pub invariant-loop-list : goal.invariant-loop-list
invariant-loop-list l = record {
  found : (place : Option ℕ) → IsFirstAgainst l.selection l.stands l.old (drop l.list-index l.left) place → IsFirstAgainst l.selection l.fn.from l.fn.rows l.left place;
  onward : AreOnward l.stands (drop l.list-index l.left);
  rising : AreRising l.old;
}
