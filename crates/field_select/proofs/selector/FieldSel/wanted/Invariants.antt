use Rattle.std.proofs.Common.{◌≡◌, drop}
use Rattle.field_select.specs.Meaning.{wanted}
use Rattle.field_select.proofs.selector.FieldSel.wanted.Given as goal

abbrev pub invariant-loop-term : goal.invariant-loop-term
invariant-loop-term l = wanted (drop l.term-index l.term-items) l.i ≡ wanted l.term-items l.i
