use Rattle.net_front.proofs.server.serve_front.Given as goal

-- the limit and the settings that were asked for
abbrev pub ghosts-serve_up_to-B-Limit : goal.ghosts-serve_up_to-B-Limit
ghosts-serve_up_to-B-Limit g a = record { limit = a.limit; settings = a.settings.now }

-- the ledger that was made
abbrev pub ghosts-serve_up_to-B-Ledger : goal.ghosts-serve_up_to-B-Ledger
ghosts-serve_up_to-B-Ledger g a = record { name = a.blank.name; parts = a.blank.parts }
