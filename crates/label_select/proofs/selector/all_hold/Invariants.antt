use Rattle.std.proofs.Common.{take, All}
use Rattle.label_select.specs.Meaning.{Holds}
use Rattle.label_select.proofs.selector.all_hold.Given as goal

abbrev pub invariant-loop-requirement : goal.invariant-loop-requirement
invariant-loop-requirement l = All (Holds l.labels) (take l.requirement-index l.requirements)
