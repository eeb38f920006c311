use Rattle.std.specs.Prelude.{[], false}
use Rattle.watchcache.proofs.server.serve_own.Given as goal

-- the log that was just made, empty, whose caches keep as many changes as the settings say
abbrev pub ghosts-serve_new-F-LogName : goal.ghosts-serve_new-F-LogName
ghosts-serve_new-F-LogName g a = record { log = a.made }

abbrev pub ghosts-serve_new-F-LogFacts : goal.ghosts-serve_new-F-LogFacts
ghosts-serve_new-F-LogFacts g a = record { base = []; mirror = false; window = a.setup.options.settings.window }
