use Rattle.std.proofs.Common.{[], false}
use Rattle.cases.proofs.bench.hub.run.Given as goal

-- the log that was just made
abbrev pub ghosts-run_over-N-LogName : goal.ghosts-run_over-N-LogName
ghosts-run_over-N-LogName a = record { log = a.made }

abbrev pub ghosts-run_over-N-LogFacts : goal.ghosts-run_over-N-LogFacts
ghosts-run_over-N-LogFacts a = record { base = []; mirror = false; window = 1 }
