use Rattle.std.proofs.Common.{◌≡◌, ◌+◌, ◌≤◌, length, option_map}
use Rattle.watch_record.specs.Lines.{Parts, lines_in, parts_of}
use Rattle.watch_record.proofs.parts.lines_before_empty.Given as goal

abbrev pub invariant-lines : goal.invariant-lines
invariant-lines l = record {
  counts : option_map (λ (parts : Parts). length parts.log) (parts_of (lines_in l.bytes)) ≡ option_map (λ (parts : Parts). l.count + length parts.log) (parts_of (lines_in l.rest));
  within : l.count + length l.rest ≤ length l.bytes;
}

abbrev pub decreases-lines : goal.decreases-lines
decreases-lines l = length l.rest
