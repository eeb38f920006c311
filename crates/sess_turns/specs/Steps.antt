-- Steps of private functions.
use Rattle.std.specs.Prelude.{◌≡◌, ◌+◌, ◌<◌, ℕ, length, List, [], ◌∷◌, ◌++◌, Option, Some, None, Result, Ok, Err, IfOk, is_some, if◌then◌else◌}
use Rattle.edge_io.specs.declared.clock.Reading.{Reading}
use Rattle.edge_io.specs.Told.{Noted}
use Rattle.edge_io.specs.Sent.{Sent, IsSentOn}
use Rattle.rev_front.specs.Passes.{Pass}
use Rattle.rev_log.specs.Changes.{RevisionData}
use Rattle.watch_rules.specs.declared.ask.WatchAsk.{WatchAsk}
use Rattle.client_api.specs.Alone.{IsSoleRead}
use Rattle.client_api.specs.declared.answers.Took.{Took}
use Rattle.client_api.specs.declared.answers.Took.TheVariants.{Lost}
use Rattle.client_api.specs.Laws.{IsLasting, position_after}
use Rattle.meta_view.specs.Lines.{expired_line}
use Rattle.sess_reply.specs.Sending.{Sends}
use Rattle.sess_reply.specs.declared.broken.Broken.{Broken}
use Rattle.sess_turns.specs.declared.ends.WatchEnd.{WatchEnd}
use Rattle.sess_turns.specs.declared.ends.WatchEnd.TheVariants as ends
use Rattle.sess_turns.specs.declared.view.View.{View}
use Rattle.up_api.specs.declared.settings.Settings.{Settings}
use Rattle.sess_turns.specs.Terms.{Terms}
use Rattle.sess_turns.specs.Turns.{Turn, Finish, Progress, IsStreamTurn, Follow, Finishes, IsNumber, most_turns, AloneFinish, after_turn, mark_after, told_lines, lines_of_turn, lines_from, last_lines, turn_readings, end_of_watch}
use Rattle.sess_turns.specs.Streams.{Outside, Names, framed, frames_of, end_text}

-- one turn, after which the watch goes on
pub record Lasts (terms : Terms) (view : View) (ask : WatchAsk) (start : Reading) (whole : Type 0) (s : Progress) (now : Progress) (outside : Outside) : Type 0 where
  pub turn : Turn
  pub is : IsStreamTurn terms ask start s turn
  pub lasts : IsLasting turn.took
  pub now_is : after_turn terms ask s turn ≡ now
  pub readings : Noted outside.readings_old outside.readings_new (turn.reading ∷ [])
  pub sent_on : IsSentOn (frames_of view ask.selection.resource (lines_of_turn terms ask s turn)) outside.sent
  pub sole : whole → IsSoleRead s.pass turn.pass

-- some turns and how they end, from where the watch stands after so many turns
pub record Stops (terms : Terms) (view : View) (ask : WatchAsk) (start : Reading) (whole : Type 0) (made : ℕ) (s : Progress) (outside : Outside)
    (answer : Result WatchEnd Broken) (q : Pass RevisionData) : Type 0 where
  pub turns : List Turn
  pub last : Progress
  pub finish : Finish
  pub follow : Follow terms ask start s turns last
  pub finishes : Finishes terms ask start last finish q
  pub number : IsNumber finish (made + length turns)
  pub ends : Names answer finish
  pub readings : Noted outside.readings_old outside.readings_new (turn_readings turns finish)
  pub sends : Sends answer
      (frames_of view ask.selection.resource (lines_from terms ask s turns ++ last_lines finish)
      ++ (if is_some (end_of_watch finish) then end_text view.framing else []))
      outside.sent
  pub sole : whole → AloneFinish s.pass finish q

-- what a turn of the loop comes to: the watch goes on, and stands there; or it stops
abbrev pub IsTurned : Terms → View → WatchAsk → Reading → Type 0 → Progress → Outside → Result (Option WatchEnd) Broken → Progress → Type 0
IsTurned terms view ask start whole s outside (Ok None) now = Lasts terms view ask start whole s now outside
IsTurned terms view ask start whole s outside (Ok (Some how)) now =
    (made : ℕ) → made < most_turns → Stops terms view ask start whole made s outside (Ok how) now.pass
IsTurned terms view ask start whole s outside (Err why) now =
    (made : ℕ) → made < most_turns → Stops terms view ask start whole made s outside (Err why) now.pass

-- what the client gave is told; a loss ends the stream
abbrev pub Tells : Settings → View → WatchAsk → ℕ → ℕ → ℕ → Took → Result (Option WatchEnd) Broken → ℕ → ℕ → Sent → Type 0
Tells settings view ask position mark now (Lost at floor) answer to later sent =
    IfOk answer (λ ended. ended ≡ Some (ends.Lost at floor))
    × Sends answer (framed view.framing (expired_line at floor) ++ end_text view.framing) sent
Tells settings view ask position mark now took answer to later sent =
    IfOk answer (λ ended. (ended ≡ None) × (to ≡ position_after took position) × (later ≡ mark_after settings ask mark now took))
    × Sends answer (frames_of view ask.selection.resource (told_lines settings ask position mark now took)) sent
