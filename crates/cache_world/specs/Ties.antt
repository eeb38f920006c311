-- What the calls of one cache are in the world: each is a step of every world that has the cache, and in which the
-- watches of its resource have the cache's lanes.
use Rattle.std.specs.Prelude.{◌≡◌, ◌↔◌, ℕ, ◌<◌, ◌≤◌, ◌⊎◌, max, Bool, true, List, ◌∷◌, [], ◌++◌, Option, Some, None, IfSome, option_map, option_to_list, nat_eq, if◌then◌else◌}
use Rattle.kube_meta.specs.declared.resources.Resource.{Resource}
use Rattle.kube_meta.specs.Resources.{same_resource}
use Rattle.rev_log.specs.Logs.{Log, end_of}
use Rattle.select_all.specs.declared.selection.Selection.{Selection}
use Rattle.select_all.specs.Floors.{IsFloorOk}
use Rattle.cache_world.specs.Lanes.{LaneData, BatchData, Lanes, Batches, MissesNothing, IsPumped, ArePumped, pumped_lane, queued, rebuilt_lane, opened_lane, caught_lane}
use Rattle.cache_world.specs.World.{WatchData, World}
use Rattle.cache_world.specs.Steps.{Step, IsWatching, MayPump, IsAllowed, caught_watch, after}
use Rattle.cache_world.specs.Steps.Step.{Pump, Rebuild, Open, CatchUp, Lose, Close}

-- a cache with its lanes: how far it follows the log, where its window was begun, the lowest position that it serves
pub record HubView : Type 0 where
  pub end : ℕ
  pub base : ℕ
  pub low : ℕ
  pub lanes : Lanes

-- the watch is of the resource
abbrev pub IsOf : Resource → WatchData → Type 0
IsOf resource watch = same_resource watch.lane.selection.resource resource ≡ true

-- client i watches the resource
abbrev pub IsWatcher : World → Resource → ℕ → Type 0
IsWatcher world resource i = IsWatching (world.clients i).watch (IsOf resource)

-- the world's cache of the resource is this one, and the watch of each client that watches it has the lane with a
-- number that is its own
pub record HasHub (world : World) (resource : Resource) (number : ℕ → ℕ) (hub : HubView) : Type 0 where
  pub end_is : (world.caches resource).end ≡ hub.end
  pub base_is : (world.caches resource).base ≡ hub.base
  pub low_is : (world.caches resource).low ≡ hub.low
  pub lanes : (i : ℕ) → IfSome (world.clients i).watch (λ watch. IsOf resource watch → hub.lanes (number i) ≡ Some watch.lane)
  pub own : (i j : ℕ) → IsWatcher world resource i → IsWatcher world resource j → number i ≡ number j → i ≡ j

-- the step may be made, and leads to a world that has this one
pub record LeadsTo (world : World) (step : Step) (resource : Resource) (number : ℕ → ℕ) (hub : HubView) : Type 0 where
  pub allowed : IsAllowed world step
  pub shows : HasHub (after world step) resource number hub

-- these lanes are the others but for one place
abbrev pub AreChangedAt : ℕ → Option LaneData → Lanes → Lanes → Type 0
AreChangedAt number lane lanes later = (n : ℕ) → later n ≡ (if nat_eq n number then lane else lanes n)

-- the batches in the queue of a client that watches
abbrev pub waiting_of : Option WatchData → List BatchData
waiting_of None = []
waiting_of (Some watch) = watch.waiting

-- ---- a pump

-- the pump of a lane is one of the two that the machine makes, by whether the lane falls behind
abbrev pub PumpsAreComputed : Type 0
PumpsAreComputed =
    (log : Log) (end : ℕ) (lane later : LaneData) (batch : Option BatchData) →
    IsPumped log end lane batch later ↔ ((falls : Bool) × (pumped_lane log end falls lane ≡ later) × (queued log end falls lane ≡ option_to_list batch))

-- what a pump makes of a hub's lanes and queues is a step, which does the same to the clients' queues
abbrev pub PumpsAreSteps : Type 0
PumpsAreSteps =
    (world : World) (resource : Resource) (number : ℕ → ℕ) (hub later : HubView) (batches : Batches) →
    HasHub world resource number hub → MayPump world resource later.end later.low → later.base ≡ hub.base →
    ArePumped world.log later.end hub.lanes batches later.lanes →
    (falls : ℕ → Bool) × (LeadsTo world (Pump resource later.end later.low falls) resource number later ×
    ((i : ℕ) → IsWatcher world resource i →
    waiting_of ((after world (Pump resource later.end later.low falls)).clients i).watch ≡ waiting_of (world.clients i).watch ++ option_to_list (batches (number i))))

-- ---- a rebuild

abbrev pub RebuildsAreSteps : Type 0
RebuildsAreSteps =
    (world : World) (resource : Resource) (number : ℕ → ℕ) (hub later : HubView) →
    HasHub world resource number hub → later.end ≡ end_of world.log → later.base ≡ world.floor →
    IsFloorOk world.log resource world.window world.window_max later.base later.end later.low →
    ((n : ℕ) → later.lanes n ≡ option_map rebuilt_lane (hub.lanes n)) →
    LeadsTo world (Rebuild resource later.low) resource number later

-- ---- the calls for one watch

-- a lane is opened under a number that none has, for a client that doesn't watch and takes the number
abbrev pub OpensAreSteps : Type 0
OpensAreSteps =
    (world : World) (number next : ℕ → ℕ) (hub : HubView) (later : Lanes) (i : ℕ) (s : Selection) (at : ℕ) →
    HasHub world s.resource number hub → (world.clients i).watch ≡ None → hub.low ≤ at →
    ((j : ℕ) → (nat_eq j i ≡ true) ⊎ (next j ≡ number j)) → hub.lanes (next i) ≡ None →
    AreChangedAt (next i) (Some (opened_lane s at hub.end)) hub.lanes later →
    LeadsTo world (Open i s at) s.resource next (record hub { lanes = later })

-- a watch whose position is served, or that misses nothing, is told the transitions from there on up to a revision
abbrev pub CatchUpsAreSteps : Type 0
CatchUpsAreSteps =
    (world : World) (number : ℕ → ℕ) (hub : HubView) (later : Lanes) (i : ℕ) (watch : WatchData) (to : ℕ) →
    HasHub world watch.lane.selection.resource number hub → (world.clients i).watch ≡ Some watch →
    (hub.low ≤ watch.position) ⊎ MissesNothing watch.lane watch.position → watch.position ≤ to → to ≤ max watch.position hub.end →
    AreChangedAt (number i) (Some (caught_lane to hub.end watch.lane)) hub.lanes later →
    LeadsTo world (CatchUp i to) watch.lane.selection.resource number (record hub { lanes = later }) ×
    (((after world (CatchUp i to)).clients i).watch ≡ Some (caught_watch world.log to hub.end watch))

-- a watch below the lowest position that is served may be ended with a loss, which is told
abbrev pub LossesAreSteps : Type 0
LossesAreSteps =
    (world : World) (number : ℕ → ℕ) (hub : HubView) (later : Lanes) (i : ℕ) (watch : WatchData) →
    HasHub world watch.lane.selection.resource number hub → (world.clients i).watch ≡ Some watch →
    watch.position < hub.low → AreChangedAt (number i) None hub.lanes later →
    LeadsTo world (Lose i) watch.lane.selection.resource number (record hub { lanes = later }) ×
    (((after world (Lose i)).clients i).losses ≡ (world.clients i).losses ++ record { resource = watch.lane.selection.resource; at = watch.position; floor = hub.low } ∷ [])

-- the lane of a watch is closed
abbrev pub ClosesAreSteps : Type 0
ClosesAreSteps =
    (world : World) (number : ℕ → ℕ) (hub : HubView) (later : Lanes) (i : ℕ) (watch : WatchData) →
    HasHub world watch.lane.selection.resource number hub → (world.clients i).watch ≡ Some watch →
    AreChangedAt (number i) None hub.lanes later →
    LeadsTo world (Close i) watch.lane.selection.resource number (record hub { lanes = later })
