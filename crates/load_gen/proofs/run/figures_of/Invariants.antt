use Rattle.std.specs.Prelude.{[], false}
use Rattle.load_gen.proofs.run.figures_of.Given as goal

-- the log that was just made
abbrev pub ghosts-serve_new-N-LogName : goal.ghosts-serve_new-N-LogName
ghosts-serve_new-N-LogName a = record { log = a.made }

abbrev pub ghosts-serve_new-N-LogFacts : goal.ghosts-serve_new-N-LogFacts
ghosts-serve_new-N-LogFacts a = record { base = []; mirror = false; window = 1 }
