use Rattle.std.proofs.Common.{[], false}
use Rattle.cases.proofs.scripts.run_script.Given as goal

-- the log that was just made
abbrev pub ghosts-run_scene-N-LogName : goal.ghosts-run_scene-N-LogName
ghosts-run_scene-N-LogName a = record { log = a.made }

abbrev pub ghosts-run_scene-N-LogFacts : goal.ghosts-run_scene-N-LogFacts
ghosts-run_scene-N-LogFacts a = record { base = []; mirror = false; window = 1 }
