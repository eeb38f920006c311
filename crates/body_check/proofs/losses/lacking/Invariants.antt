use Rattle.std.proofs.Common.{◌≡◌, ◌-◌, take}
use Rattle.std.specs.Prelude.{sum_by}
use Rattle.select_all.specs.Floors.{changes_in}
use Rattle.body_check.proofs.losses.lacking.Given as goal

abbrev pub invariant-loop-revision : goal.invariant-loop-revision
invariant-loop-revision l = l.lacking ≡ l.number - sum_by (changes_in l.resource) (take l.revision-index l.log)
