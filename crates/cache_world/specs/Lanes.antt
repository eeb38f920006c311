-- Lanes: what a cache keeps of each watch that it feeds, what it puts into the watch's queue, and what each call of
-- the cache makes of both.
use Rattle.std.specs.Prelude.{◌≡◌, ◌≢◌, ℕ, ◌≤◌, ◌⊎◌, Bool, true, false, List, [], ◌∷◌, Option, Some, None, nat_lt, nat_le, if◌then◌else◌}
use Rattle.rev_log.specs.Logs.{Log, end_of}
use Rattle.select_all.specs.declared.selection.Selection.{Selection}
use Rattle.select_all.specs.Streams.{TransitionData, transitions}

-- a lane: the selection of its watch; the mark, up to which the watch was brought or was sent batches; and whether it
-- is behind, and so gets nothing until its watch has caught up
pub record LaneData : Type 0 where
  pub selection : Selection
  pub mark : ℕ
  pub behind : Bool

-- a batch: the selection's transitions in the revisions above one number and up to another
pub record BatchData : Type 0 where
  pub selection : Selection
  pub from : ℕ
  pub to : ℕ
  pub sent : List TransitionData

-- the batch of a log between two revisions
abbrev pub batch_between : Log → Selection → ℕ → ℕ → BatchData
batch_between log s from to = record { selection = s; from = from; to = to; sent = transitions log s from to }

-- what every batch is: the stream between its ends, which the log has reached, and not an empty one
pub record IsBatch (log : Log) (batch : BatchData) : Type 0 where
  pub onward : batch.from ≤ batch.to
  pub within : batch.to ≤ end_of log
  pub some : batch.sent ≢ []
  pub exact : batch.sent ≡ transitions log batch.selection batch.from batch.to

-- and one of a selection
abbrev pub IsBatchOf : Log → Selection → BatchData → Type 0
IsBatchOf log s batch = IsBatch log batch × (batch.selection ≡ s)

-- what a lane's watch wasn't sent of the log up to a revision
abbrev pub unsent : Log → ℕ → LaneData → List TransitionData
unsent log end lane = transitions log lane.selection lane.mark end

-- a lane that isn't behind misses nothing up to the cache's end
abbrev pub IsInStep : Log → ℕ → LaneData → Type 0
IsInStep log end lane = lane.behind ≡ false → unsent log end lane ≡ []

-- so its watch, at the mark or above it, misses nothing up to there
abbrev pub MissesNothing : LaneData → ℕ → Type 0
MissesNothing lane at = (lane.behind ≡ false) × (lane.mark ≤ at)

-- ---- a pump of the cache to a later end

-- a lane that is behind, or of which nothing came, stays and gets nothing
pub record IsLeft (log : Log) (end : ℕ) (lane : LaneData) (batch : Option BatchData) (later : LaneData) : Type 0 where
  pub nothing : (lane.behind ≡ true) ⊎ (unsent log end lane ≡ [])
  pub stays : later ≡ lane
  pub none : batch ≡ None

-- where something came, it goes out as one batch from the mark to the end, and the end is the mark
pub record IsSent (log : Log) (end : ℕ) (lane : LaneData) (batch : Option BatchData) (later : LaneData) : Type 0 where
  pub in_step : lane.behind ≡ false
  pub came : unsent log end lane ≢ []
  pub moves : later ≡ record lane { mark = end }
  pub goes : batch ≡ Some (batch_between log lane.selection lane.mark end)

-- or it gets nothing, since its queue is full or memory ran out, and is behind
pub record FallsBehind (log : Log) (end : ℕ) (lane : LaneData) (batch : Option BatchData) (later : LaneData) : Type 0 where
  pub in_step : lane.behind ≡ false
  pub came : unsent log end lane ≢ []
  pub falls : later ≡ record lane { behind = true }
  pub none : batch ≡ None

-- what a pump to an end makes of a lane, and what it puts into its queue
abbrev pub IsPumped : Log → ℕ → LaneData → Option BatchData → LaneData → Type 0
IsPumped log end lane batch later =
    IsLeft log end lane batch later ⊎ (IsSent log end lane batch later ⊎ FallsBehind log end lane batch later)

-- ---- the same, computed: of the lanes for which something came some fall behind

-- by whether the lane is behind, what came, and whether it falls behind now
abbrev pub lane_after : LaneData → ℕ → Bool → List TransitionData → Bool → LaneData
lane_after lane end true came falls = lane
lane_after lane end false [] falls = lane
lane_after lane end false (transition ∷ more) true = record lane { behind = true }
lane_after lane end false (transition ∷ more) false = record lane { mark = end }

abbrev pub queue_after : LaneData → ℕ → Bool → List TransitionData → Bool → List BatchData
queue_after lane end true came falls = []
queue_after lane end false [] falls = []
queue_after lane end false (transition ∷ more) true = []
queue_after lane end false (transition ∷ more) false =
    record { selection = lane.selection; from = lane.mark; to = end; sent = transition ∷ more } ∷ []

abbrev pub pumped_lane : Log → ℕ → Bool → LaneData → LaneData
pumped_lane log end falls lane = lane_after lane end lane.behind (unsent log end lane) falls

-- what then goes into its queue
abbrev pub queued : Log → ℕ → Bool → LaneData → List BatchData
queued log end falls lane = queue_after lane end lane.behind (unsent log end lane) falls

-- ---- the other calls of the cache

-- after a rebuild each lane is behind
abbrev pub rebuilt_lane : LaneData → LaneData
rebuilt_lane lane = record lane { behind = true }

-- a lane that is opened at a position has its mark there, and is behind exactly where that is below the cache's end
abbrev pub opened_lane : Selection → ℕ → ℕ → LaneData
opened_lane s at end = record { selection = s; mark = at; behind = nat_lt at end }

-- a watch that has caught up to the cache's end has its mark there and isn't behind; before the end its lane stays
abbrev pub caught_lane : ℕ → ℕ → LaneData → LaneData
caught_lane to end lane = if nat_le end to then record lane { mark = to; behind = false } else lane

-- ---- all lanes of a cache, each under its number

abbrev pub Lanes : Type 0
Lanes = ℕ → Option LaneData

-- what is put into the queues of the lanes
abbrev pub Batches : Type 0
Batches = ℕ → Option BatchData

-- what a pump makes of the place of a lane: nothing of one that isn't open
abbrev pub IsPlacePumped : Log → ℕ → Option LaneData → Option BatchData → Option LaneData → Type 0
IsPlacePumped log end None batch later = (batch ≡ None) × (later ≡ None)
IsPlacePumped log end (Some lane) batch None = ⊥
IsPlacePumped log end (Some lane) batch (Some later) = IsPumped log end lane batch later

abbrev pub ArePumped : Log → ℕ → Lanes → Batches → Lanes → Type 0
ArePumped log end lanes batches later = (id : ℕ) → IsPlacePumped log end (lanes id) (batches id) (later id)
