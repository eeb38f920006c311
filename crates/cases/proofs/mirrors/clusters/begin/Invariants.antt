use Rattle.std.proofs.Common.{[], true}
use Rattle.cases.proofs.mirrors.clusters.begin.Given as goal

-- the log of the list is a mirror's, and begins empty
abbrev pub ghosts-follow-N-LogName : goal.ghosts-follow-N-LogName
ghosts-follow-N-LogName g a = record { log = a.made }

abbrev pub ghosts-follow-N-LogFacts : goal.ghosts-follow-N-LogFacts
ghosts-follow-N-LogFacts g a = record { base = []; mirror = true; window = 1 }
