use Rattle.std.proofs.Common.{◌≡◌, false, length, string_bytes}
use Rattle.field_select.specs.Reading.{value_at}
use Rattle.field_select.proofs.Loops.{with_front}
use Rattle.field_select.proofs.reading.value_of.Given as goal

abbrev pub invariant-loop-value : goal.invariant-loop-value
invariant-loop-value l = record {
  same_end : l.reader.end ≡ l.fn.reader.end;
  so_far : with_front (string_bytes l.value) (value_at l.reader.end false l.reader.rest.now) ≡ value_at l.fn.reader.end false l.fn.reader.rest.now;
}

abbrev pub decreases-loop-value : goal.decreases-loop-value
decreases-loop-value l = length l.reader.rest.now
