use Rattle.std.proofs.Common.{◌≡◌, ◌-◌, length}
use Rattle.field_select.specs.declared.reader.Run.TheVariants as runs
use Rattle.field_select.specs.Bytes.{is_in, left}
use Rattle.field_select.specs.Reading.{terms_at}
use Rattle.field_select.proofs.Loops.{after_these}
use Rattle.field_select.proofs.reading.terms_of.Given as goal

abbrev pub invariant-loop : goal.invariant-loop
invariant-loop l = record {
  same_end : l.reader.end ≡ length l.text;
  so_far : after_these l.terms.items (terms_at l.resource (64 - l.counter) l.reader.end l.reader.rest.now) ≡ terms_at l.resource 64 (length l.text) (left (is_in runs.Commas) l.text);
}
