-- What lanes have to be told of events.
use Rattle.std.specs.Prelude.{◌≡◌, ◌≢◌, ◌==◌, ℕ, Bool, true, false, not, ◌&&◌, List, [], ◌∷◌, ◌++◌, ◌⊎◌, filter_map, Option, Some, None, is_some, nat_lt, if◌then◌else◌}
use Rattle.std.specs.List.{list_any}
use Rattle.std.specs.Map.{lookup}
use Rattle.std.specs.Ordering.{is_eq, nat_cmp}
use Rattle.select_all.specs.declared.selection.Selection.{Selection}
use Rattle.select_all.specs.Selecting.{selects}
use Rattle.select_all.specs.Streams.{EventData, TransitionData, object_of, transition_by, transitions}
use Rattle.event_ring.specs.Events.{EventRows}
use Rattle.rev_log.specs.Logs.{Log}
use Rattle.watch_lane.specs.Batches.{PieceData}
use Rattle.watch_lane.specs.Index.{IndexData, is_listed, is_touched, lane_at}
use Rattle.cache_world.specs.Lanes.{LaneData, unsent}
use Rattle.cache_hub.specs.OpenLanes.{OpenLaneData, open_at, left_behind}

-- an event that a ring holds, as the log has it
abbrev pub event_data : EventRows → EventData
event_data event = record { rev = event.rev; key = event.key; before = event.before; now = event.now }

-- what an event is to a watch
abbrev pub transition_of : Selection → EventRows → Option TransitionData
transition_of s event = transition_by (selects s) (event_data event)

-- what a lane has to be told of an event: nothing while it is behind, or where it was told already
abbrev pub due : LaneData → EventRows → Option TransitionData
due lane event = if not lane.behind && nat_lt lane.mark event.rev then transition_of lane.selection event else None

-- of several
abbrev pub all_due : LaneData → List EventRows → List TransitionData
all_due lane events = filter_map (due lane) events

-- the lane after events that it isn't told: it is behind if one of them concerned it
abbrev pub missed : List EventRows → OpenLaneData → OpenLaneData
missed events o = if list_any (λ event. is_some (due o.lane event)) events then left_behind o else o

-- what the lane under a number has to be told of an event
abbrev pub due_in : Option OpenLaneData → EventRows → Option TransitionData
due_in None event = None
due_in (Some o) event = due o.lane event

abbrev pub due_at : List (ℕ × OpenLaneData) → ℕ → EventRows → Option TransitionData
due_at lanes id event = due_in (open_at lanes id) event

-- the lines that wait for the lane under a number
abbrev pub lines_in : Option (List TransitionData) → List TransitionData
lines_in None = []
lines_in (Some lines) = lines

abbrev pub lines_at : List (ℕ × List TransitionData) → ℕ → List TransitionData
lines_at waiting id = lines_in (lookup (λ other. is_eq (nat_cmp id other)) waiting)

-- what waits for each lane is all that it has to be told of these events
abbrev pub AllDue : List (ℕ × OpenLaneData) → List EventRows → List (ℕ × List TransitionData) → Type 0
AllDue lanes events waiting = (id : ℕ) → lines_at waiting id ≡ filter_map (due_at lanes id) events

-- unless a lane is behind, what it has to be told of these events is what it wasn't sent of the log up to an end
abbrev pub IsReady : Log → ℕ → List EventRows → OpenLaneData → Type 0
IsReady log end events o = o.lane.behind ≡ false → all_due o.lane events ≡ unsent log end o.lane

-- and so for all lanes
abbrev pub AreReady : Log → ℕ → List EventRows → List (ℕ × OpenLaneData) → Type 0
AreReady log end events lanes = (id : ℕ) (o : OpenLaneData) → open_at lanes id ≡ Some o → IsReady log end events o

-- whether an event may concern the lane under a number, by an index
abbrev pub touches : IndexData → EventRows → ℕ → Bool
touches index event id = is_touched index.field (object_of event.before) (object_of event.now) (lane_at index.lanes id)

-- lanes beside these numbers have to be told nothing of an event
abbrev pub AreUntold : List (ℕ × OpenLaneData) → EventRows → List ℕ → Type 0
AreUntold lanes event ids = (id : ℕ) → is_listed ids id ≡ false → due_at lanes id event ≡ None

-- nor of any of these events
abbrev pub AreSilent : List (ℕ × OpenLaneData) → List EventRows → List ℕ → Type 0
AreSilent lanes events ids = (id : ℕ) → is_listed ids id ≡ false → filter_map (due_at lanes id) events ≡ []

-- what waits for a lane is what it wasn't sent; nothing waits for one that is behind
abbrev pub IsWaiting : Log → ℕ → List TransitionData → Option OpenLaneData → Type 0
IsWaiting log end lines None = Unit {0}
IsWaiting log end lines (Some o) = ((o.lane.behind ≡ true) × (lines ≡ [])) ⊎ ((o.lane.behind ≡ false) × (lines ≡ unsent log end o.lane))

-- and so for all lanes
abbrev pub AreWaiting : Log → ℕ → List (ℕ × List TransitionData) → List (ℕ × OpenLaneData) → Type 0
AreWaiting log end waiting lanes = (id : ℕ) → IsWaiting log end (lines_at waiting id) (open_at lanes id)

-- a piece of a log: all that comes to its selection behind where it begins and up to an end, and there is some
pub record IsPiece (log : Log) (end : ℕ) (piece : PieceData) : Type 0 where
  pub upto : piece.to ≡ end
  pub lines_are : piece.lines ≡ transitions log piece.selection piece.from end
  pub some : piece.lines ≢ []

-- and so of a piece that may be there
abbrev pub IsPieceIn : Log → ℕ → Option PieceData → Type 0
IsPieceIn log end None = Unit {0}
IsPieceIn log end (Some piece) = IsPiece log end piece

-- and of one of a selection
abbrev pub IsPieceOf : Log → ℕ → Selection → Option PieceData → Type 0
IsPieceOf log end s None = Unit {0}
IsPieceOf log end s (Some piece) = IsPiece log end piece × (piece.selection ≡ s)

-- a line, if there is one, as a list
abbrev pub one : Option TransitionData → List TransitionData
one None = []
one (Some line) = line ∷ []

-- each lane's lines were followed by what it has to be told of an event
abbrev pub AddsEach : List (ℕ × OpenLaneData) → EventRows → List (ℕ × List TransitionData) → List (ℕ × List TransitionData) → Type 0
AddsEach lanes event old new = (id : ℕ) → lines_at new id ≡ lines_at old id ++ one (due_at lanes id event)

-- the lines of one lane were
abbrev pub AddsTo : ℕ → Option TransitionData → List (ℕ × List TransitionData) → List (ℕ × List TransitionData) → Type 0
AddsTo id line old new = (other : ℕ) → lines_at new other ≡ (if id == other then lines_at old other ++ one line else lines_at old other)
