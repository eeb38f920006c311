-- What can happen in the world: one step at a time, of the store, of a cache or of a client.
use Rattle.std.specs.Prelude.{◌≡◌, ◌≢◌, ℕ, ◌+◌, ◌^◌, ◌<◌, ◌≤◌, ◌⊎◌, max, Bool, List, [], ◌∷◌, ◌++◌, Option, Some, None, nat_eq, if◌then◌else◌}
use Rattle.kube_meta.specs.declared.resources.Resource.{Resource}
use Rattle.kube_meta.specs.Resources.{same_resource}
use Rattle.kube_meta.specs.Rows.{RowData}
use Rattle.rev_front.specs.Passes.{Pass, longer, looked}
use Rattle.rev_log.specs.Changes.{RevisionData}
use Rattle.rev_log.specs.Logs.{Log, Fits, end_of, grown, upto}
use Rattle.select_all.specs.declared.selection.Selection.{Selection}
use Rattle.select_all.specs.Streams.{transitions}
use Rattle.select_all.specs.Listings.{IsListing}
use Rattle.select_all.specs.Floors.{IsFloorOk}
use Rattle.cache_world.specs.Lanes.{BatchData, MissesNothing, pumped_lane, queued, rebuilt_lane, opened_lane, caught_lane}
use Rattle.cache_world.specs.World.{CacheView, WatchData, ClientData, World, Party, pass_of, with_cache, with_client, with_pass}

-- the three words of the store that are read without its lock
pub data Word : Type 0 where
  OfRevision : Word
  OfGeneration : Word
  OfFloor : Word

pub data Step : Type 0 where
  -- the store accepts a write or a transaction
  Write : RevisionData → Step
  -- it raises its floor to a revision
  Compact : ℕ → Step
  -- it cuts all feeds
  Cut : Step
  -- one loads a word of the store
  Load : Party → Word → Step
  -- the first meets the second, and knows what both knew
  Learn : Party → Party → Step
  -- the cache of a resource follows the log to an end, its window then serves from a position on, and of the clients
  -- for whom something came these fall behind
  Pump : Resource → ℕ → ℕ → (ℕ → Bool) → Step
  -- it is made again from the log's floor and end, and its window then serves from a position on
  Rebuild : Resource → ℕ → Step
  -- a client is given the listing of a selection at a revision
  Serve : ℕ → Selection → ℕ → List RowData → Step
  -- a client begins to watch a selection from a position on
  Open : ℕ → Selection → ℕ → Step
  -- its watch is told all up to a revision by the cache's window, or goes along with the cache where it misses nothing
  CatchUp : ℕ → ℕ → Step
  -- the oldest batch of its queue is taken
  Deliver : ℕ → Step
  -- its watch is ended by the cache, which no longer serves its position
  Lose : ℕ → Step
  -- its watch is ended by itself
  Close : ℕ → Step

-- ---- when a step is allowed

-- client i watches, and the watch is such
abbrev pub IsWatching : Option WatchData → (WatchData → Type 0) → Type 0
IsWatching None such = ⊥
IsWatching (Some watch) such = such watch

-- the cache of a watch
abbrev pub cache_of : World → WatchData → CacheView
cache_of world watch = world.caches watch.lane.selection.resource

-- a cache goes on to a later end that the log has reached, and drops changes of its window as one of a size from
-- `window` to `window_max` does
pub record MayPump (world : World) (resource : Resource) (end low : ℕ) : Type 0 where
  pub onward : (world.caches resource).end ≤ end
  pub within : end ≤ end_of world.log
  pub rises : (world.caches resource).low ≤ low
  pub floor_ok : IsFloorOk world.log resource world.window world.window_max (world.caches resource).base end low

-- a client is served at the cache's end, or at any revision that the log has reached and that isn't below the floor
-- that the client knows
abbrev pub MayServe : World → ℕ → Resource → ℕ → Type 0
MayServe world i resource at =
    (at ≡ (world.caches resource).end) ⊎ (((world.clients i).pass.floor ≤ at) × (at ≤ end_of world.log))

-- the cache still serves the watch's position, or the watch misses nothing; and it is told of what the cache has
-- reached, or nothing
pub record MayCatchUp (world : World) (watch : WatchData) (to : ℕ) : Type 0 where
  pub served : ((cache_of world watch).low ≤ watch.position) ⊎ MissesNothing watch.lane watch.position
  pub onward : watch.position ≤ to
  pub reached : to ≤ max watch.position (cache_of world watch).end

abbrev pub IsAllowed : World → Step → Type 0
IsAllowed world (Write revision) = (end_of world.log < 2 ^ 62) × Fits (end_of world.log + 1) revision
IsAllowed world (Compact to) = (world.floor ≤ to) × (to ≤ end_of world.log)
IsAllowed world Cut = world.generation < 2 ^ 62
IsAllowed world (Load who word) = Unit {0}
IsAllowed world (Learn who whom) = Unit {0}
IsAllowed world (Pump resource end low falls) = MayPump world resource end low
IsAllowed world (Rebuild resource low) = IsFloorOk world.log resource world.window world.window_max world.floor (end_of world.log) low
IsAllowed world (Serve i s at rows) = MayServe world i s.resource at × IsListing world.log s at rows
IsAllowed world (Open i s at) = ((world.clients i).watch ≡ None) × ((world.caches s.resource).low ≤ at)
IsAllowed world (CatchUp i to) = IsWatching (world.clients i).watch (λ watch. MayCatchUp world watch to)
IsAllowed world (Deliver i) = IsWatching (world.clients i).watch (λ watch. watch.waiting ≢ [])
IsAllowed world (Lose i) = IsWatching (world.clients i).watch (λ watch. watch.position < (cache_of world watch).low)
IsAllowed world (Close i) = IsWatching (world.clients i).watch (λ watch. Unit {0})

-- ---- what a step changes

-- a pass that loads a word
abbrev pub loaded : World → Word → Pass RevisionData → Pass RevisionData
loaded world OfRevision pass = looked pass (end_of world.log)
loaded world OfGeneration pass = record pass { gen = world.generation }
loaded world OfFloor pass = record pass { floor = world.floor }

-- a pass that meets another takes the longer log and the greater numbers, and keeps its own loads
abbrev pub learnt : Pass RevisionData → Pass RevisionData → Pass RevisionData
learnt pass other = record pass { seen = longer pass.seen other.seen; shown = max pass.shown other.shown; floor = max pass.floor other.floor; gen = max pass.gen other.gen }

-- a pass that was told something of a revision of the log
abbrev pub told_at : Log → ℕ → Pass RevisionData → Pass RevisionData
told_at log at pass = record pass { seen = longer pass.seen (upto log at); shown = max pass.shown at }

-- each watch of the resource is changed so
abbrev pub each_of : Resource → (WatchData → WatchData) → Option WatchData → Option WatchData
each_of resource change None = None
each_of resource change (Some watch) = Some (if same_resource watch.lane.selection.resource resource then change watch else watch)

abbrev pub pumped_watch : Log → ℕ → Bool → WatchData → WatchData
pumped_watch log end falls watch =
    record watch { waiting = watch.waiting ++ queued log end falls watch.lane; lane = pumped_lane log end falls watch.lane }

abbrev pub rebuilt_watch : WatchData → WatchData
rebuilt_watch watch = record watch { lane = rebuilt_lane watch.lane }

abbrev pub opened_watch : Selection → ℕ → ℕ → WatchData
opened_watch s at end = record { start = at; position = at; received = []; waiting = []; lane = opened_lane s at end }

abbrev pub caught_watch : Log → ℕ → ℕ → WatchData → WatchData
caught_watch log to end watch =
    record watch { position = to; received = watch.received ++ transitions log watch.lane.selection watch.position to; lane = caught_lane to end watch.lane }

-- a batch that begins at the watch's position is received; any other is dropped
abbrev pub received_batch : BatchData → List BatchData → WatchData → WatchData
received_batch batch waiting watch =
    if nat_eq batch.from watch.position
    then record watch { position = batch.to; received = watch.received ++ batch.sent; waiting = waiting }
    else record watch { waiting = waiting }

abbrev pub delivered : List BatchData → WatchData → WatchData
delivered [] watch = watch
delivered (batch ∷ waiting) watch = received_batch batch waiting watch

-- a client whose watch is changed
abbrev pub with_watch : ClientData → (WatchData → WatchData) → Option WatchData → ClientData
with_watch client change None = client
with_watch client change (Some watch) = record client { watch = Some (change watch) }

-- a client that loses its watch is told why
abbrev pub lost : (WatchData → CacheView) → ClientData → Option WatchData → ClientData
lost cache client None = client
lost cache client (Some watch) =
    record client {
      watch = None;
      losses = client.losses ++ record { resource = watch.lane.selection.resource; at = watch.position; floor = (cache watch).low } ∷ [];
    }

abbrev pub after : World → Step → World
after world (Write revision) = record world { log = grown world.log (revision ∷ []) }
after world (Compact to) = record world { floor = to }
after world Cut = record world { generation = world.generation + 1 }
after world (Load who word) = with_pass world who (loaded world word (pass_of world who))
after world (Learn who whom) = with_pass world who (learnt (pass_of world who) (pass_of world whom))
after world (Pump resource end low falls) =
    record (with_cache world resource (record (world.caches resource) { end = end; low = low })) {
      clients = λ i. record (world.clients i) { watch = each_of resource (pumped_watch world.log end (falls i)) (world.clients i).watch };
    }
after world (Rebuild resource low) =
    record (with_cache world resource (record (world.caches resource) { end = end_of world.log; base = world.floor; low = low })) {
      clients = λ i. record (world.clients i) { watch = each_of resource rebuilt_watch (world.clients i).watch };
    }
after world (Serve i s at rows) =
    let client = world.clients i in
    with_client world i (record client {
      pass = told_at world.log at client.pass;
      given = client.given ++ record { selection = s; at = at; rows = rows } ∷ [];
    })
after world (Open i s at) =
    with_client world i (record (world.clients i) { watch = Some (opened_watch s at (world.caches s.resource).end) })
after world (CatchUp i to) =
    with_client world i (with_watch (world.clients i) (λ watch. caught_watch world.log to (cache_of world watch).end watch) (world.clients i).watch)
after world (Deliver i) =
    with_client world i (with_watch (world.clients i) (λ watch. delivered watch.waiting watch) (world.clients i).watch)
after world (Lose i) = with_client world i (lost (cache_of world) (world.clients i) (world.clients i).watch)
after world (Close i) = with_client world i (record (world.clients i) { watch = None })

-- ---- lists of steps

-- the steps, each of them allowed where it is made, lead from one world to another
abbrev pub Reaches : World → List Step → World → Type 0
Reaches world [] last = last ≡ world
Reaches world (step ∷ steps) last = IsAllowed world step × Reaches (after world step) steps last
