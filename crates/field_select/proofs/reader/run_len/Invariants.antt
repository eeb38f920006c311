use Rattle.field_select.specs.Bytes.{is_in, EachBelow}
use Rattle.field_select.proofs.reader.run_len.Given as goal

abbrev pub invariant-loop-i : goal.invariant-loop-i
invariant-loop-i l = EachBelow (is_in l.run) l.bytes l.i
