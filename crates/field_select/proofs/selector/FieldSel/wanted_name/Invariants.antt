use Rattle.std.proofs.Common.{◌≡◌, drop}
use Rattle.field_select.specs.Meaning.{wanted_name}
use Rattle.field_select.proofs.selector.FieldSel.wanted_name.Given as goal

abbrev pub invariant-loop-term : goal.invariant-loop-term
invariant-loop-term l = wanted_name (drop l.term-index l.term-items) ≡ wanted_name l.term-items
