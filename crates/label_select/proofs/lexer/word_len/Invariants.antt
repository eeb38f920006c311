use Rattle.label_select.specs.Pieces.{is_word_byte}
use Rattle.label_select.proofs.Runs.{EachBelow}
use Rattle.label_select.proofs.lexer.word_len.Given as goal

abbrev pub invariant-loop-i : goal.invariant-loop-i
invariant-loop-i l = EachBelow is_word_byte l.bytes l.i
