use Rattle.std.proofs.Common.{◌≡◌, ◌++◌, length}
use Rattle.std.specs.Prelude.{map}
use Rattle.watch_record.specs.Between.{all_lines}
use Rattle.watch_record.proofs.between_parts.lines_of.Given as goal

abbrev pub invariant-lines : goal.invariant-lines
invariant-lines l = all_lines l.text ≡ map (λ line. line.now) l.lines.items ++ all_lines l.rest

abbrev pub decreases-lines : goal.decreases-lines
decreases-lines l = length l.rest
