use denote.Shadow.{shadow}
use denote.Text.{Utf8}
use Rattle.std.proofs.Common.{◌≡◌, ◌++◌, length}
use Rattle.watch_record.specs.Lines.{lines_in}
use Rattle.watch_record.proofs.reading.read_lines.Given as goal

abbrev pub invariant-lines : goal.invariant-lines
invariant-lines l = record {
  so_far : lines_in l.text ≡ l.lines.items ++ lines_in l.left;
  utf8 : shadow (Utf8 l.left);
}

abbrev pub decreases-lines : goal.decreases-lines
decreases-lines l = length l.left
