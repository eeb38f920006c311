use Rattle.label_select.specs.Pieces.{is_blank}
use Rattle.label_select.proofs.Runs.{EachBelow}
use Rattle.label_select.proofs.lexer.blank_len.Given as goal

abbrev pub invariant-loop-i : goal.invariant-loop-i
invariant-loop-i l = EachBelow is_blank l.bytes l.i
