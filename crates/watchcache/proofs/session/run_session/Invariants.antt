use Rattle.std.specs.Prelude.{[], false}
use Rattle.watchcache.proofs.session.run_session.Given as goal

-- the log that was just made
abbrev pub ghosts-serve_new-N-LogName : goal.ghosts-serve_new-N-LogName
ghosts-serve_new-N-LogName g a = record { log = a.made }

abbrev pub ghosts-serve_new-N-LogFacts : goal.ghosts-serve_new-N-LogFacts
ghosts-serve_new-N-LogFacts g a = record { base = []; mirror = false; window = 1 }
