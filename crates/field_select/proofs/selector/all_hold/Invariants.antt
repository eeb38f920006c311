use Rattle.std.proofs.Common.{take, All}
use Rattle.field_select.specs.Meaning.{Holds}
use Rattle.field_select.proofs.selector.all_hold.Given as goal

abbrev pub invariant-loop-term : goal.invariant-loop-term
invariant-loop-term l = All (Holds l.fields l.key) (take l.term-index l.terms)
