-- What a cache tells a watch.
use Rattle.std.specs.Prelude.{◌≡◌, ℕ, ◌<◌, ◌≤◌, ◌⊎◌, Bool, false, List, [], length, Option, None, Some, if◌then◌else◌}
use Rattle.kube_meta.specs.Rows.{RowData}
use Rattle.rev_front.specs.Passes.{Pass, end_from}
use Rattle.rev_log.specs.Changes.{RevisionData}
use Rattle.up_api.specs.Sections.{log_of}
use Rattle.select_all.specs.declared.selection.Meaning.TheVariants.{Any}
use Rattle.select_all.specs.declared.selection.Selection.{Selection}
use Rattle.select_all.specs.Floors.{IsEvicted}
use Rattle.select_all.specs.Listings.{listing}
use Rattle.select_all.specs.Streams.{transitions}
use Rattle.cache_hub.specs.Catching.{CaughtData}
use Rattle.cache_hub.specs.OpenLanes.{OpenLaneData, GetsAll}
use Rattle.cache_hub.specs.declared.catching.CatchNo.{CatchNo}
use Rattle.cache_hub.specs.declared.catching.CatchNo.TheVariants.{Lost, Memory}
use Rattle.client_api.specs.declared.answers.ListNo.{ListNo}
use Rattle.client_api.specs.declared.answers.ListNo.TheVariants.{Expired, TooLarge, Absent}
use Rattle.client_api.specs.declared.answers.ListNo.TheVariants as no_memory
use Rattle.client_api.specs.Answers.{BegunData}
use Rattle.client_api.specs.declared.answers.Took.{Took}
use Rattle.client_api.specs.Facts.{HasLoaded, Watched}
use Rattle.client_api.specs.Turns.{IsWatchTurn}
use Rattle.cached_client.specs.Serving.{IsServed}

-- What a watch at a position is told that catches up, where this was shown and this is known then: all lines up to a
-- revision. If there are any, that revision is seen; if not, the watch stays or goes on to a revision that is seen,
-- and isn't behind what was shown.
pub record IsTold (base : List RowData) (s : Selection) (at shown : ℕ) (q : Pass RevisionData) (caught : CaughtData) : Type 0 where
  pub exact : caught.lines ≡ transitions (log_of base q) s at caught.upto
  pub current : shown ≤ end_from q.first q.seen
  pub reached : 0 < length caught.lines → caught.upto ≤ end_from q.first q.seen
  pub quiet : length caught.lines ≡ 0 → (at ≤ caught.upto) × (shown ≤ caught.upto) × ((caught.upto ≡ at) ⊎ (caught.upto ≤ end_from q.first q.seen))

-- it can't catch up: what came after its position may not all be kept
abbrev pub IsLostAt : List RowData → ℕ → Selection → ℕ → Pass RevisionData → CatchNo → Type 0
IsLostAt base window s at q (Lost asked floor) = (asked ≡ at) × (asked < floor) × IsEvicted (log_of base q) q.floor window s.resource at floor
IsLostAt base window s at q Memory = Unit {0}

-- it is refused so only where the watch doesn't get all that comes: its lane is behind, or there is none for it
abbrev pub IsLeftBehind : Selection → Option OpenLaneData → CatchNo → Type 0
IsLeftBehind s lane (Lost asked floor) = ¬ GetsAll s lane
IsLeftBehind s lane Memory = Unit {0}

-- its lane isn't behind, and got more than the watch was told, which stands at this position: the lane has a batch
abbrev pub HasMore : Selection → ℕ → Option OpenLaneData → Type 0
HasMore s at None = ⊥
HasMore s at (Some o) = (o.lane.selection ≡ s) × (o.lane.behind ≡ false) × (at < o.lane.mark)

-- what a turn gives, for whoever had loaded before r was known and loads nothing until q is
abbrev pub IsLoadedTurn : List RowData → ℕ → Pass RevisionData → Watched → Took → Pass RevisionData → Type 0
IsLoadedTurn base window r watched took q = (p : Pass RevisionData) → HasLoaded p r → IsWatchTurn base window p watched took q

-- a watch begins at the end of a cache that has reached what was shown, with the selected rows of the state there, where
-- they are sent
pub record BeginsAtEnd (base : List RowData) (s : Selection) (shown : ℕ) (sends : Bool) (begun : BegunData) (q : Pass RevisionData) : Type 0 where
  pub state : List RowData
  pub served : IsServed base s.resource Any shown q begun.at state
  pub rows_are : begun.rows ≡ (if sends then listing s state else [])

-- a watch can't begin at a position: what came after it may not all be kept
abbrev pub IsStartLost : List RowData → ℕ → Selection → ℕ → Pass RevisionData → ListNo → Type 0
IsStartLost base window s at q (Expired asked floor) = (asked ≡ at) × IsEvicted (log_of base q) q.floor window s.resource at floor
IsStartLost base window s at q (TooLarge asked current) = ⊥
IsStartLost base window s at q (Absent other) = ⊥
IsStartLost base window s at q no_memory.Memory = Unit {0}
