-- The open lanes of a cache: what is kept of each, and what the calls of the cache make of them.
use Rattle.std.specs.Prelude.{◌≡◌, ◌==◌, ℕ, ◌≤◌, Bool, false, List, [], ◌++◌, map, count_by, nat_eq, Option, Some, None, option_map, if◌then◌else◌}
use Rattle.std.specs.Map.{lookup}
use Rattle.kube_meta.specs.declared.resources.Resource.{Resource}
use Rattle.rev_log.specs.Logs.{Log}
use Rattle.select_all.specs.declared.selection.Selection.{Selection}
use Rattle.watch_lane.specs.Batches.{PieceData, BatchData as NotedBatch}
use Rattle.watch_lane.specs.Index.{IndexData, lane_at}
use Rattle.cache_world.specs.Lanes.{LaneData, BatchData, IsInStep, MissesNothing, pumped_lane, queued, rebuilt_lane, opened_lane, caught_lane}

-- a lane, how many batches its queue has room for, and all that were put into it, the oldest first
pub record OpenLaneData : Type 0 where
  pub lane : LaneData
  pub room : ℕ
  pub sent : List BatchData

-- a batch without its pass
abbrev pub batch_of : NotedBatch → BatchData
batch_of batch = record { selection = batch.selection; from = batch.from; to = batch.to; sent = batch.lines }

-- a piece as such a batch
abbrev pub batch_from : PieceData → BatchData
batch_from piece = record { selection = piece.selection; from = piece.from; to = piece.to; sent = piece.lines }

-- the lane under a number
abbrev pub open_at : List (ℕ × OpenLaneData) → ℕ → Option OpenLaneData
open_at lanes id = lookup (nat_eq id) lanes

-- what holds of each lane
abbrev pub Each : (OpenLaneData → Type 0) → List (ℕ × OpenLaneData) → Type 0
Each fact lanes = (id : ℕ) (o : OpenLaneData) → open_at lanes id ≡ Some o → fact o

-- the lanes are of this resource
abbrev pub AreOf : Resource → List (ℕ × OpenLaneData) → Type 0
AreOf resource lanes = Each (λ o. o.lane.selection.resource ≡ resource) lanes

-- those that aren't behind miss nothing up to the cache's end
abbrev pub AreInStep : Log → ℕ → List (ℕ × OpenLaneData) → Type 0
AreInStep log end lanes = Each (λ o. IsInStep log end o.lane) lanes

-- how many are behind
abbrev pub count_behind : List (ℕ × OpenLaneData) → ℕ
count_behind lanes = count_by (λ o. o.lane.behind) (map (λ entry. entry.1) lanes)

-- the lane at a place is open, for this selection, and isn't behind: its watch gets all that comes
abbrev pub GetsAll : Selection → Option OpenLaneData → Type 0
GetsAll s None = ⊥
GetsAll s (Some o) = (o.lane.selection ≡ s) × (o.lane.behind ≡ false)

-- and a watch at this position was told all that it got, so that it misses nothing and goes along with the cache
abbrev pub GoesAlong : Selection → ℕ → Option OpenLaneData → Type 0
GoesAlong s at None = ⊥
GoesAlong s at (Some o) = (o.lane.selection ≡ s) × MissesNothing o.lane at

-- ---- what the calls of a cache make of a lane

-- that of a watch which starts at a position, at a cache with this end
abbrev pub newly_open : Selection → ℕ → ℕ → ℕ → OpenLaneData
newly_open s at end room = record { lane = opened_lane s at end; room = room; sent = [] }

-- after the cache went on to an end: what came was put into the queue as one batch, or the lane fell behind
abbrev pub told_lane : Log → ℕ → Bool → OpenLaneData → OpenLaneData
told_lane log end falls o = record o { lane = pumped_lane log end falls o.lane; sent = o.sent ++ queued log end falls o.lane }

-- after its watch has caught up to a revision
abbrev pub caught_up : ℕ → ℕ → OpenLaneData → OpenLaneData
caught_up to end o = record o { lane = caught_lane to end o.lane }

-- after a rebuild
abbrev pub left_behind : OpenLaneData → OpenLaneData
left_behind o = record o { lane = rebuilt_lane o.lane }

-- ---- and of all lanes

-- the lane under one number was set, or taken out; each other one stays
abbrev pub SetsLane : List (ℕ × OpenLaneData) → List (ℕ × OpenLaneData) → ℕ → Option OpenLaneData → Type 0
SetsLane old new id lane = (other : ℕ) → open_at new other ≡ (if id == other then lane else open_at old other)

-- each became what a function makes of it
abbrev pub AreChanged : (OpenLaneData → OpenLaneData) → List (ℕ × OpenLaneData) → List (ℕ × OpenLaneData) → Type 0
AreChanged change old new = (id : ℕ) → open_at new id ≡ option_map change (open_at old id)

-- the cache went on to an end; of the lanes for which something came, these fell behind
pub record AreTold (log : Log) (end : ℕ) (old new : List (ℕ × OpenLaneData)) : Type 0 where
  pub falls : ℕ → Bool
  pub each : (id : ℕ) → open_at new id ≡ option_map (told_lane log end (falls id)) (open_at old id)

-- how many batches each queue has room for, and the lanes under their numbers
pub record LanesData : Type 0 where
  pub room : ℕ
  pub all : List (ℕ × OpenLaneData)

-- the lane under a number, if one is given, is that of a watch which has caught up to a revision
abbrev pub LaneCaughtUp : Option ℕ → ℕ → ℕ → LanesData → LanesData → Type 0
LaneCaughtUp None to end old new = new ≡ old
LaneCaughtUp (Some id) to end old new = SetsLane old.all new.all id (option_map (caught_up to end) (open_at old.all id)) × (new.room ≡ old.room)

-- ---- lanes in two maps, of which one has an index

-- the index has the selection of each of these lanes
abbrev pub IsIndexed : IndexData → List (ℕ × OpenLaneData) → Type 0
IsIndexed index lanes = (id : ℕ) → lane_at index.lanes id ≡ option_map (λ o. o.lane.selection) (open_at lanes id)

-- none has this number or a greater one
abbrev pub AreFree : ℕ → List (ℕ × OpenLaneData) → Type 0
AreFree next lanes = (id : ℕ) → next ≤ id → open_at lanes id ≡ None

-- those of one map have other numbers than those of the other
abbrev pub AreApart : List (ℕ × OpenLaneData) → List (ℕ × OpenLaneData) → Type 0
AreApart placed alike = (id : ℕ) (o : OpenLaneData) → open_at alike id ≡ Some o → open_at placed id ≡ None

-- all have the same selection
abbrev pub AreAlike : List (ℕ × OpenLaneData) → Type 0
AreAlike lanes = (s : Selection) × Each (λ o. o.lane.selection ≡ s) lanes
