use Rattle.std.proofs.Common.{◌≡◌, length}
use Rattle.http_read.specs.Heads.{has_element}
use Rattle.http_read.proofs.fields.has_element.Given as goal

-- what is left decides
abbrev pub invariant-loop-piece : goal.invariant-loop-piece
invariant-loop-piece l = has_element l.element l.rest ≡ has_element l.element l.value

abbrev pub decreases-loop-piece : goal.decreases-loop-piece
decreases-loop-piece l = length l.rest
