-- The turns of a watch, by the clock (KEP-956, KEP-3157).
use Rattle.std.specs.Prelude.{◌≡◌, ℕ, ◌+◌, ◌*◌, ◌<◌, ◌≤◌, Bool, true, false, ◌&&◌, nat_le, List, [], ◌∷◌, ◌++◌, length, map, Option, Some, None, if◌then◌else◌}
use Rattle.edge_io.specs.declared.clock.Reading.{Reading}
use Rattle.rev_front.specs.Passes.{Pass}
use Rattle.rev_log.specs.Changes.{RevisionData}
use Rattle.watch_rules.specs.declared.ask.WatchAsk.{WatchAsk}
use Rattle.watch_rules.specs.Bodies.{Line, Bookmark, Lost as LostLine, opening_lines}
use Rattle.client_api.specs.declared.answers.Took.{Took}
use Rattle.client_api.specs.declared.answers.Took.TheVariants.{Quiet, Lost}
use Rattle.client_api.specs.Alone.{IsSoleRead}
use Rattle.client_api.specs.Answers.{BegunData}
use Rattle.client_api.specs.Facts.{IsOnward}
use Rattle.client_api.specs.Laws.{turn_lines, position_after, IsLasting}
use Rattle.client_api.specs.Turns.{IsWatchTurn as Gives}
use Rattle.sess_turns.specs.declared.ends.WatchEnd.{WatchEnd}
use Rattle.sess_turns.specs.declared.ends.WatchEnd.TheVariants as ends
use Rattle.up_api.specs.declared.settings.Settings.{Settings}
use Rattle.sess_turns.specs.Terms.{Terms, watch_seconds}

-- ---- as data

-- a turn: its reading of the clock, what the client gave, and what is known then
pub record Turn : Type 0 where
  pub reading : Reading
  pub took : Took
  pub pass : Pass RevisionData

-- How the turns end: by a reading that is too late, or one that asks to stop; by a turn that lost the watch, at a
-- position below a floor; after as many turns as there may be; or broken off, maybe after one more reading, where the
-- client had no memory for its turn.
pub data Finish : Type 0 where
  timed_out stopped : Reading → Finish
  lost : Turn → ℕ → ℕ → Finish
  spent : Finish
  broken : Option Reading → Finish

-- a watch that was begun: where, its first reading, its turns and how they end
pub record Turns : Type 0 where
  pub begun : BegunData
  pub start : Reading
  pub turns : List Turn
  pub finish : Finish

-- ---- where a watch stands between two turns

-- what is known, the position up to which all is told, and when the last bookmark came, at first the start
pub record Progress : Type 0 where
  pub pass : Pass RevisionData
  pub position : ℕ
  pub mark : ℕ

-- where a watch stands before its first turn: at its start, and with no bookmark since its first reading
abbrev pub first_progress : Pass RevisionData → Turns → Progress
first_progress p watch = record { pass = p; position = watch.begun.at; mark = watch.start.ms }

-- a bookmark is due at a quiet turn whose position the log has reached, where bookmarks are asked for and the last one
-- is long ago
abbrev pub is_due : Settings → WatchAsk → ℕ → ℕ → Took → Bool
is_due settings ask mark now (Quiet upto reached) = ask.bookmarks && (reached && nat_le (mark + settings.bookmark_ms) now)
is_due settings ask mark now took = false

-- when the last bookmark came, after a turn
abbrev pub mark_after : Settings → WatchAsk → ℕ → ℕ → Took → ℕ
mark_after settings ask mark now took = if is_due settings ask mark now took then now else mark

-- where a watch stands after a turn: it goes on from its new position, and from the turn's bookmark where that had one
abbrev pub after_turn : Terms → WatchAsk → Progress → Turn → Progress
after_turn terms ask s turn = record {
  pass = turn.pass;
  position = position_after turn.took s.position;
  mark = mark_after terms.settings ask s.mark turn.reading.ms turn.took;
}

-- ---- the clock

-- the time of the watch is over: as many seconds as it lasts have passed since its first reading
abbrev pub IsLate : Terms → WatchAsk → Reading → Reading → Type 0
IsLate terms ask start now = start.ms + 1000 * watch_seconds terms.settings ask.timeout_s ≤ now.ms

-- the time of the watch isn't over: fewer seconds than it lasts have passed since its first reading
abbrev pub IsInTime : Terms → WatchAsk → Reading → Reading → Type 0
IsInTime terms ask start now = now.ms < start.ms + 1000 * watch_seconds terms.settings ask.timeout_s

-- the watch may have another turn: its time isn't over, and the program isn't asked to stop
abbrev pub MayGoOn : Terms → WatchAsk → Reading → Reading → Type 0
MayGoOn terms ask start now = IsInTime terms ask start now × (now.stop ≡ false)

-- ---- turns

-- a turn by whose reading the watch goes on: the client is asked once
pub record IsStreamTurn (terms : Terms) (ask : WatchAsk) (start : Reading) (s : Progress) (turn : Turn) : Type 0 where
  pub goes_on : MayGoOn terms ask start turn.reading
  pub onward : IsOnward s.pass turn.pass
  pub gives : Gives terms.base terms.window s.pass (record { selection = ask.selection; position = s.position }) turn.took turn.pass

-- turns that follow each other and don't lose the watch, from where it stands before them to where it stands after
abbrev pub Follow : Terms → WatchAsk → Reading → Progress → List Turn → Progress → Type 0
Follow terms ask start s [] last = s ≡ last
Follow terms ask start s (turn ∷ more) last =
    IsStreamTurn terms ask start s turn × IsLasting turn.took × Follow terms ask start (after_turn terms ask s turn) more last

-- how a watch may end where it stands so, and what is known afterwards
abbrev pub Finishes : Terms → WatchAsk → Reading → Progress → Finish → Pass RevisionData → Type 0
Finishes terms ask start s (timed_out now) q = IsLate terms ask start now × (s.pass ≡ q)
Finishes terms ask start s (stopped now) q = IsInTime terms ask start now × (now.stop ≡ true) × (s.pass ≡ q)
Finishes terms ask start s (lost turn at floor) q = IsStreamTurn terms ask start s turn × (turn.took ≡ Lost at floor) × (turn.pass ≡ q)
Finishes terms ask start s spent q = s.pass ≡ q
Finishes terms ask start s (broken None) q = s.pass ≡ q
Finishes terms ask start s (broken (Some now)) q = MayGoOn terms ask start now × IsOnward s.pass q

-- the most turns of a watch
abbrev pub most_turns : ℕ
most_turns = 1000000000

-- after how many turns that left it standing a watch may end in this way
abbrev pub IsNumber : Finish → ℕ → Type 0
IsNumber spent made = made ≡ most_turns
IsNumber (broken None) made = made ≤ most_turns
IsNumber finish made = made < most_turns

-- the turns of a watch, from what is known once it has begun to what is known at its end
pub record IsWatchTurns (terms : Terms) (ask : WatchAsk) (p : Pass RevisionData) (watch : Turns) (q : Pass RevisionData) : Type 0 where
  pub last : Progress
  pub follow : Follow terms ask watch.start (first_progress p watch) watch.turns last
  pub finishes : Finishes terms ask watch.start last watch.finish q
  pub number : IsNumber watch.finish (length watch.turns)

-- ---- readings: one before the first turn, and one a turn

-- the last reading of a watch, if it was taken for no turn that left the watch standing
abbrev pub last_readings : Finish → List Reading
last_readings (timed_out now) = now ∷ []
last_readings (stopped now) = now ∷ []
last_readings (lost turn at floor) = turn.reading ∷ []
last_readings spent = []
last_readings (broken None) = []
last_readings (broken (Some now)) = now ∷ []

-- a reading for each turn that left the watch standing, and the last one, if there is one
abbrev pub turn_readings : List Turn → Finish → List Reading
turn_readings turns finish = map (λ turn. turn.reading) turns ++ last_readings finish

-- all readings that a watch took of the clock, in order: the first is its start, from which its time counts
abbrev pub readings_of : Turns → List Reading
readings_of watch = watch.start ∷ turn_readings watch.turns watch.finish

-- ---- lines

-- what the client gave, and then a bookmark where one is due
abbrev pub told_lines : Settings → WatchAsk → ℕ → ℕ → ℕ → Took → List Line
told_lines settings ask position mark now took =
    turn_lines took ++ (if is_due settings ask mark now took then Bookmark (position_after took position) ∷ [] else [])

-- the lines that are written of a turn, where the watch stood so before it
abbrev pub lines_of_turn : Terms → WatchAsk → Progress → Turn → List Line
lines_of_turn terms ask s turn = told_lines terms.settings ask s.position s.mark turn.reading.ms turn.took

-- the lines of turns that follow each other, from where the watch stood before the first
abbrev pub lines_from : Terms → WatchAsk → Progress → List Turn → List Line
lines_from terms ask s [] = []
lines_from terms ask s (turn ∷ more) = lines_of_turn terms ask s turn ++ lines_from terms ask (after_turn terms ask s turn) more

-- the last line of a watch: the ERROR of a loss, and none after another end
abbrev pub last_lines : Finish → List Line
last_lines (lost turn at floor) = LostLine at floor ∷ []
last_lines finish = []

-- all lines of a watch, in order: the opening, then turn by turn
abbrev pub watch_lines : Terms → WatchAsk → Pass RevisionData → Turns → List Line
watch_lines terms ask p watch =
    opening_lines ask watch.begun.at watch.begun.rows
    ++ (lines_from terms ask (first_progress p watch) watch.turns ++ last_lines watch.finish)

-- ---- ends

-- how the stream ended, where it wasn't broken off
abbrev pub end_of_watch : Finish → Option WatchEnd
end_of_watch (timed_out now) = Some ends.Timeout
end_of_watch (stopped now) = Some ends.Stopped
end_of_watch (lost turn at floor) = Some (ends.Lost at floor)
end_of_watch spent = Some ends.TurnsSpent
end_of_watch (broken now) = None

-- of a log that nobody else holds: a watch only reads, but where the client had no memory for a turn no more is said
-- than that the log is the same
abbrev pub AloneFinish : Pass RevisionData → Finish → Pass RevisionData → Type 0
AloneFinish p (broken (Some now)) q = q.seen ≡ p.seen
AloneFinish p finish q = IsSoleRead p q
