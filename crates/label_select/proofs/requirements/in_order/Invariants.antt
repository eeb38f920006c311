use Rattle.std.proofs.Common.{take}
use Rattle.label_select.specs.Values.{HasAll}
use Rattle.label_select.proofs.requirements.in_order.Given as goal

abbrev pub invariant-loop-text : goal.invariant-loop-text
invariant-loop-text l = HasAll (take l.text-index l.texts) l.ordered
