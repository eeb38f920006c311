use Rattle.std.specs.Prelude.{[], false}
use Rattle.cases.proofs.sessions.serving.serve_through.Given as goal

-- the log that was just made
abbrev pub ghosts-serve_local-N-LogName : goal.ghosts-serve_local-N-LogName
ghosts-serve_local-N-LogName g a = record { log = a.made }

abbrev pub ghosts-serve_local-N-LogFacts : goal.ghosts-serve_local-N-LogFacts
ghosts-serve_local-N-LogFacts g a = record { base = []; mirror = false; window = 1 }

abbrev pub ghosts-serve_shared-N-LogName : goal.ghosts-serve_shared-N-LogName
ghosts-serve_shared-N-LogName g a = record { log = a.made }

abbrev pub ghosts-serve_shared-N-LogFacts : goal.ghosts-serve_shared-N-LogFacts
ghosts-serve_shared-N-LogFacts g a = record { base = []; mirror = false; window = a.settings.now.window }
