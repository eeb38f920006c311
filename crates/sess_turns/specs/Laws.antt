-- Laws of the turns of a watch.
use Rattle.std.specs.Prelude.{◌≡◌}
use Rattle.rev_front.specs.Passes.{Pass}
use Rattle.rev_log.specs.Changes.{RevisionData}
use Rattle.up_api.specs.Sections.{log_of}
use Rattle.watch_rules.specs.declared.ask.WatchAsk.{WatchAsk}
use Rattle.watch_rules.specs.Bodies.{Body, IsWatchBody, lines_of}
use Rattle.client_api.specs.Starts.{IsWatchStart}
use Rattle.sess_turns.specs.Terms.{Terms}
use Rattle.sess_turns.specs.Turns.{Turns, IsWatchTurns, watch_lines}

-- The lines of a watch, from its start to its end, are those of a lawful body over the log that is known at the end.
abbrev pub TurnsAreBodies : Type 0
TurnsAreBodies =
    (terms : Terms) (p opened q : Pass RevisionData) (ask : WatchAsk) (watch : Turns) →
    IsWatchStart terms.base p ask watch.begun opened → IsWatchTurns terms ask opened watch q →
    (body : Body) × IsWatchBody (log_of terms.base q) q.floor terms.window ask body
    × (watch_lines terms ask opened watch ≡ lines_of (log_of terms.base q) ask body)
