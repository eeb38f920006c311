use Rattle.cases.proofs.parts.passes.run.Given as goal

-- the log that was just made
abbrev pub ghosts-run_log : goal.ghosts-run_log
ghosts-run_log a = record { log = a.made }
