use denote.Shadow.{shadow}
use denote.Text.{Utf8}
use Rattle.std.proofs.Common.{◌+◌, ◌≤◌, length}
use Rattle.watch_record.specs.Lines.{lines_in}
use Rattle.watch_record.proofs.LogLemmas.{HasLog}
use Rattle.watch_record.proofs.reading.read_log.Given as goal

abbrev pub invariant-lines : goal.invariant-lines
invariant-lines l = record {
  has : HasLog l.first (lines_in l.rest) l.log.items (lines_in l.left);
  utf8 : shadow (Utf8 l.left);
  within : length l.log.items + length l.left ≤ length l.rest;
}

abbrev pub decreases-lines : goal.decreases-lines
decreases-lines l = length l.left
