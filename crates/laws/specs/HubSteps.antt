-- What the calls of a hub are in the world: each is a step of every world that has the hub.
use Rattle.std.specs.Prelude.{◌≡◌, ℕ, ◌≤◌, ◌⊎◌, Bool, true, List, [], ◌∷◌, ◌++◌, Option, Some, None, option_map, nat_eq}
use Rattle.rev_log.specs.Changes.{RevisionData}
use Rattle.rev_log.specs.Logs.{Log, grown, end_of}
use Rattle.select_all.specs.declared.selection.Selection.{Selection}
use Rattle.up_api.specs.Feeds.{HistoryData}
use Rattle.cache_core.specs.Caches.{log_at}
use Rattle.cache_world.specs.Lanes.{BatchData}
use Rattle.cache_world.specs.World.{WatchData, World}
use Rattle.cache_world.specs.Steps.{Step, IsAllowed, after}
use Rattle.cache_world.specs.Steps.Step.{Pump, Rebuild, Open, CatchUp, Lose, Close}
use Rattle.cache_world.specs.Ties.{HubView, HasHub, IsWatcher, waiting_of}
use Rattle.cache_hub.specs.Catching.{CaughtData}
use Rattle.cache_hub.specs.Hubs.{HubData, StandsFor}
use Rattle.cache_hub.specs.OpenLanes.{OpenLaneData, open_at}

-- the batches that were put into the queue under a number
abbrev pub sent_of : Option OpenLaneData → List BatchData
sent_of None = []
sent_of (Some o) = o.sent

-- a hub as the world sees it
abbrev pub view_of : HubData → HubView
view_of hub = record {
  end = hub.cache.end;
  base = hub.cache.base;
  low = hub.cache.ring.floor;
  lanes = λ id. option_map (λ o. o.lane) (open_at hub.lanes.all id);
}

-- the hub is the world's cache of its resource: it has the world's windows, and each client that watches the resource
-- has the lane under a number of its own
pub record IsHubIn (world : World) (number : ℕ → ℕ) (hub : HubData) : Type 0 where
  pub has : HasHub world hub.cache.resource number (view_of hub)
  pub window : world.window ≡ hub.cache.ring.window
  pub window_max : world.window_max ≡ hub.cache.ring.window_max

-- the step may be made, and then the hub is the world's again
pub record LeadsToHub (world : World) (step : Step) (number : ℕ → ℕ) (hub : HubData) : Type 0 where
  pub allowed : IsAllowed world step
  pub is : IsHubIn (after world step) number hub

-- the number of client i changed, and no other
abbrev pub AreRenumbered : ℕ → (ℕ → ℕ) → (ℕ → ℕ) → Type 0
AreRenumbered i number next = (j : ℕ) → (nat_eq j i ≡ true) ⊎ (next j ≡ number j)

-- the watch of a client that watches
abbrev pub HasWatch : World → ℕ → WatchData → Type 0
HasWatch world i watch = (world.clients i).watch ≡ Some watch

-- the step leads to the hub, and the client's watch stands where it was told up to and has received what it was told
abbrev pub HasReceived : World → (ℕ → ℕ) → HubData → ℕ → WatchData → CaughtData → Type 0
HasReceived world number new i watch caught =
    LeadsToHub world (CatchUp i caught.upto) number new ×
    ((later : WatchData) × HasWatch (after world (CatchUp i caught.upto)) i later × (later.position ≡ caught.upto) × (later.received ≡ watch.received ++ caught.lines))

-- client i has the lane under this number, and its watch is of this selection and stands at this position
pub record IsWatchAt (world : World) (number : ℕ → ℕ) (i id : ℕ) (s : Selection) (at : ℕ) (watch : WatchData) : Type 0 where
  pub watches : HasWatch world i watch
  pub numbered : number i ≡ id
  pub selects : watch.lane.selection ≡ s
  pub stands : watch.position ≡ at

-- ---- polls and histories

-- of a poll: a pump of each world whose log goes on from the one that the poll was of. It puts the same batches into
-- the clients' queues as the hub did
abbrev pub IsPump : Log → HubData → HubData → Type 0
IsPump log old new =
    (world : World) (number : ℕ → ℕ) (more : List RevisionData) → world.log ≡ grown log more → IsHubIn world number old →
    (falls : ℕ → Bool) × (LeadsToHub world (Pump old.cache.resource new.cache.end new.cache.ring.floor falls) number new ×
    ((i : ℕ) → IsWatcher world old.cache.resource i → (batches : List BatchData) ×
    (waiting_of ((after world (Pump old.cache.resource new.cache.end new.cache.ring.floor falls)).clients i).watch ≡ waiting_of (world.clients i).watch ++ batches) ×
    (sent_of (open_at new.lanes.all (number i)) ≡ sent_of (open_at old.lanes.all (number i)) ++ batches)))

-- of a history that reaches from the world's floor to its end: a rebuild
abbrev pub IsRebuild : Log → HistoryData → HubData → HubData → Type 0
IsRebuild log history old new =
    (world : World) (number : ℕ → ℕ) → world.log ≡ log → IsHubIn world number old → history.floor ≡ world.floor → history.upto ≡ end_of world.log →
    LeadsToHub world (Rebuild old.cache.resource new.cache.ring.floor) number new

-- ---- lanes

-- of a lane that is opened under a number, for a client that doesn't watch, at a position that the ring serves: a watch
-- that opens
abbrev pub IsOpening : ℕ → Selection → ℕ → HubData → HubData → Type 0
IsOpening id s at old new =
    (world : World) (number next : ℕ → ℕ) (i : ℕ) →
    IsHubIn world number old → (world.clients i).watch ≡ None → old.cache.ring.floor ≤ at → AreRenumbered i number next → next i ≡ id →
    LeadsToHub world (Open i s at) next new

-- of a watch that is told lines: it receives them
abbrev pub IsCatchUp : ℕ → Selection → ℕ → CaughtData → HubData → HubData → Type 0
IsCatchUp id s at caught old new =
    (world : World) (number : ℕ → ℕ) (i : ℕ) (watch : WatchData) →
    IsHubIn world number old → StandsFor (log_at world.log old.cache.end) old → IsWatchAt world number i id s at watch → s.resource ≡ old.cache.resource →
    HasReceived world number new i watch caught

-- of a watch that is refused for its position, and whose lane is then closed: it is lost, and told so
abbrev pub IsLoss : ℕ → Selection → ℕ → HubData → HubData → Type 0
IsLoss id s at old new =
    (world : World) (number : ℕ → ℕ) (i : ℕ) (watch : WatchData) →
    IsHubIn world number old → IsWatchAt world number i id s at watch →
    LeadsToHub world (Lose i) number new ×
    (((after world (Lose i)).clients i).losses ≡ (world.clients i).losses ++ record { resource = s.resource; at = at; floor = old.cache.ring.floor } ∷ [])

-- of a lane that is closed: its watch is
abbrev pub IsClosing : ℕ → HubData → HubData → Type 0
IsClosing id old new =
    (world : World) (number : ℕ → ℕ) (i : ℕ) (watch : WatchData) →
    IsHubIn world number old → HasWatch world i watch → number i ≡ id → watch.lane.selection.resource ≡ old.cache.resource →
    LeadsToHub world (Close i) number new
