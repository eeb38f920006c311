use Rattle.std.proofs.Common.{◌≡◌, None, length}
use Rattle.label_select.specs.Reading.{values_at}
use Rattle.label_select.specs.Left.{left}
use Rattle.label_select.proofs.Loops.{with_front}
use Rattle.label_select.proofs.reading.values_of.Given as goal

abbrev pub invariant-loop-values : goal.invariant-loop-values
invariant-loop-values l = record {
  same_end : l.tokens.end ≡ l.fn.tokens.end;
  so_far : with_front l.values (values_at l.tokens.end None (left l.tokens)) ≡ values_at l.fn.tokens.end None (left l.fn.tokens);
}

abbrev pub decreases-loop-values : goal.decreases-loop-values
decreases-loop-values l = length (left l.tokens)
