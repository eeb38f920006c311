use Rattle.std.proofs.Common.{◌≡◌, take}
use Rattle.label_select.proofs.selector.LabelSel.copy.Given as goal

abbrev pub invariant-loop-requirement : goal.invariant-loop-requirement
invariant-loop-requirement l = l.requirements.items ≡ take l.requirement-index l.requirement-items
