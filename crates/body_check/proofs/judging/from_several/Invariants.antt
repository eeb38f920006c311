use Rattle.std.proofs.Common.{◌≡◌, ◌+◌, take}
use Rattle.rev_log.specs.Rows.{Holds}
use Rattle.body_check.specs.Courses.{untold_at}
use Rattle.body_check.specs.Moves.{standing}
use Rattle.body_check.specs.Rounds.{IsTriedBy}
use Rattle.body_check.proofs.judging.from_several.Given as goal

-- the starts so far are tried, and the rows and the moves are those at the next
abbrev pub invariant-loop-place : goal.invariant-loop-place
invariant-loop-place l = record {
  at_is : l.at ≡ l.case.first + l.place;
  tried : IsTriedBy l.case l.at l.best;
  stands : Holds l.rows (standing l.case.ask.selection.resource (take l.place l.case.log.items));
  untold : l.rest ≡ untold_at l.case l.at;
}
