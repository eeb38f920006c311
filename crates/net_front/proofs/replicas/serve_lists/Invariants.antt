use Rattle.std.specs.Prelude.{[], true}
use Rattle.net_front.proofs.replicas.serve_lists.Given as goal

-- each log was just made, is empty and a mirror's
abbrev pub ghosts-serve_tables-P-LogName : goal.ghosts-serve_tables-P-LogName
ghosts-serve_tables-P-LogName g a = record { log = a.made.pods }

abbrev pub ghosts-serve_tables-P-LogFacts : goal.ghosts-serve_tables-P-LogFacts
ghosts-serve_tables-P-LogFacts g a = record { base = []; mirror = true; window = a.manner.settings.window }

abbrev pub ghosts-serve_tables-M-LogName : goal.ghosts-serve_tables-M-LogName
ghosts-serve_tables-M-LogName g a = record { log = a.made.config_maps }

abbrev pub ghosts-serve_tables-M-LogFacts : goal.ghosts-serve_tables-M-LogFacts
ghosts-serve_tables-M-LogFacts g a = record { base = []; mirror = true; window = a.manner.settings.window }

abbrev pub ghosts-serve_tables-D-LogName : goal.ghosts-serve_tables-D-LogName
ghosts-serve_tables-D-LogName g a = record { log = a.made.deployments }

abbrev pub ghosts-serve_tables-D-LogFacts : goal.ghosts-serve_tables-D-LogFacts
ghosts-serve_tables-D-LogFacts g a = record { base = []; mirror = true; window = a.manner.settings.window }
