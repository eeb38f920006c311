use Rattle.std.specs.Prelude.{true}
use Rattle.cases.proofs.servers.mirroring.serve_opening.Given as goal

-- the log that was just made, a mirror that begins with the opening
abbrev pub ghosts-serve_log-N-LogName : goal.ghosts-serve_log-N-LogName
ghosts-serve_log-N-LogName g a = record { log = a.made }

abbrev pub ghosts-serve_log-N-LogFacts : goal.ghosts-serve_log-N-LogFacts
ghosts-serve_log-N-LogFacts g a = record { base = a.opening.rows; mirror = true; window = 100 }
