use Rattle.std.specs.Prelude.{true}
use Rattle.watchcache.proofs.mirroring.serve_opening.Given as goal

-- the log that was just made, which begins with the opening's pods, and whose caches keep as many changes as the
-- settings say
abbrev pub ghosts-serve_mirrored-F-LogName : goal.ghosts-serve_mirrored-F-LogName
ghosts-serve_mirrored-F-LogName g a = record { log = a.made }

abbrev pub ghosts-serve_mirrored-F-LogFacts : goal.ghosts-serve_mirrored-F-LogFacts
ghosts-serve_mirrored-F-LogFacts g a = record { base = a.opening.rows; mirror = true; window = a.setup.options.settings.window }
