use Rattle.std.proofs.Common.{[], false}
use Rattle.cases.proofs.servers.serving.serve_new.Given as goal

-- the log that was just made
abbrev pub ghosts-serve_log-N-LogName : goal.ghosts-serve_log-N-LogName
ghosts-serve_log-N-LogName g a = record { log = a.made }

abbrev pub ghosts-serve_log-N-LogFacts : goal.ghosts-serve_log-N-LogFacts
ghosts-serve_log-N-LogFacts g a = record { base = []; mirror = false; window = 100 }
