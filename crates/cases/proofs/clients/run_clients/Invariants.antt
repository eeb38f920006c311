use Rattle.std.proofs.Common.{[], false}
use Rattle.cases.proofs.clients.run_clients.Given as goal

-- the log that was just made
abbrev pub ghosts-run_script-N-LogName : goal.ghosts-run_script-N-LogName
ghosts-run_script-N-LogName g a = record { log = a.made }

abbrev pub ghosts-run_script-N-LogFacts : goal.ghosts-run_script-N-LogFacts
ghosts-run_script-N-LogFacts g a = record { base = []; mirror = false; window = a.settings.now.window }
