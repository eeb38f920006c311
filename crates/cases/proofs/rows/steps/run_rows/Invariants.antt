use Rattle.std.proofs.Common.{map}
use Rattle.cases.specs.Rows.{CountsRows}
use Rattle.cases.proofs.rows.steps.run_rows.Given as goal

-- each line so far that is a row is counted
abbrev pub invariant-loop-line : goal.invariant-loop-line
invariant-loop-line g l = CountsRows (map (λ line. line.now) l.yielded) l.fn.tally.rows l.tally.rows
