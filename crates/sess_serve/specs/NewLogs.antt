-- A new log that nobody else holds: what its client knows at first, and what a session is told once of them.
use Rattle.std.specs.Prelude.{ℕ, [], false, true, Some}
use Rattle.rev_front.specs.Passes.{Pass, empty_log, pass_from}
use Rattle.rev_log.specs.Changes.{RevisionData}
use Rattle.client_api.specs.Facts.{all_served}
use Rattle.sess_turns.specs.Terms.{Terms}
use Rattle.up_api.specs.declared.settings.Settings.{Settings}

-- what a client of a new log knows that has this seat: the log begins at revision 1 and is empty
abbrev pub new_pass : ℕ → Pass RevisionData
new_pass seat = pass_from (empty_log 1) seat

-- a log with no base rows, which is no mirror's and which nobody else holds; watches that are served from so many changes
-- back as the settings say, and the states of so many revisions; all resources, and operations
abbrev pub terms : Settings → Terms
terms settings = record {
  base = [];
  mirror = false;
  window = settings.window;
  sole_history = Some settings.history;
  resources = all_served;
  operable = true;
  settings = settings;
}
