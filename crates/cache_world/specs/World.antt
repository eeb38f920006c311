-- The world of an API server that serves reads and watches from caches: one log, a cache of each resource, and clients.
-- It has no ring, tree, feed, full queue or lock.
use Rattle.std.specs.Prelude.{ℕ, ◌+◌, Option, None, List, [], if◌then◌else◌, nat_eq}
use Rattle.kube_meta.specs.declared.resources.Resource.{Resource}
use Rattle.kube_meta.specs.Resources.{place_of, same_resource}
use Rattle.kube_meta.specs.Rows.{RowData}
use Rattle.rev_front.specs.Passes.{Pass, Whole, pass_from, empty_log}
use Rattle.rev_log.specs.Changes.{RevisionData}
use Rattle.rev_log.specs.Logs.{Log}
use Rattle.select_all.specs.declared.selection.Selection.{Selection}
use Rattle.select_all.specs.Streams.{TransitionData}
use Rattle.cache_world.specs.Lanes.{LaneData, BatchData}

-- a cache: the revision up to which it follows the log, that at which its window was begun, the lowest position that
-- the window still serves, and what the cache knows of the log
pub record CacheView : Type 0 where
  pub end : ℕ
  pub base : ℕ
  pub low : ℕ
  pub pass : Pass RevisionData

-- a watch: where it started, up to where its client was told everything, all that the client was told, the batches in
-- its queue, oldest first, and its lane
pub record WatchData : Type 0 where
  pub start : ℕ
  pub position : ℕ
  pub received : List TransitionData
  pub waiting : List BatchData
  pub lane : LaneData

-- a listing that a client was given
pub record GivenData : Type 0 where
  pub selection : Selection
  pub at : ℕ
  pub rows : List RowData

-- why a watch was ended by its cache: its position, and the revision above it that the cache may no longer have
pub record LossData : Type 0 where
  pub resource : Resource
  pub at : ℕ
  pub floor : ℕ

-- a client: what it knows of the log, its watch while it watches, and all listings and losses that it was told
pub record ClientData : Type 0 where
  pub pass : Pass RevisionData
  pub watch : Option WatchData
  pub given : List GivenData
  pub losses : List LossData

-- the world. Windows keep at least `window` changes and at most `window_max`
pub record World : Type 0 where
  pub log : Log
  pub floor : ℕ
  pub generation : ℕ
  pub window : ℕ
  pub window_max : ℕ
  pub caches : Resource → CacheView
  pub clients : ℕ → ClientData

-- the log and its numbers, as the store has them
abbrev pub whole_of : World → Whole RevisionData
whole_of world = record { first = world.log.first; log = world.log.revisions; gen = world.generation; floor = world.floor }

-- ---- who knows something of the log

pub data Party : Type 0 where
  Store : Party
  Cache : Resource → Party
  Client : ℕ → Party

-- each has a seat of its own
abbrev pub seat_of : Party → ℕ
seat_of Store = 0
seat_of (Cache resource) = 1 + place_of resource
seat_of (Client i) = 4 + i

-- what it knows. The store knows the log itself
abbrev pub pass_of : World → Party → Pass RevisionData
pass_of world Store = pass_from (whole_of world) (seat_of Store)
pass_of world (Cache resource) = (world.caches resource).pass
pass_of world (Client i) = (world.clients i).pass

-- ---- the world with one thing changed

abbrev pub with_cache : World → Resource → CacheView → World
with_cache world resource cache = record world { caches = λ r. if same_resource r resource then cache else world.caches r }

abbrev pub with_client : World → ℕ → ClientData → World
with_client world i client = record world { clients = λ j. if nat_eq j i then client else world.clients j }

-- the store's own pass is never another than the log
abbrev pub with_pass : World → Party → Pass RevisionData → World
with_pass world Store pass = world
with_pass world (Cache resource) pass = with_cache world resource (record (world.caches resource) { pass = pass })
with_pass world (Client i) pass = with_client world i (record (world.clients i) { pass = pass })

-- ---- the world before anything was done

-- a new cache, and a new client, of an empty log
abbrev pub new_cache : ℕ → Resource → CacheView
new_cache first resource = record { end = first; base = first; low = first; pass = pass_from (empty_log first) (seat_of (Cache resource)) }

abbrev pub new_client : ℕ → ℕ → ClientData
new_client first i = record { pass = pass_from (empty_log first) (seat_of (Client i)); watch = None; given = []; losses = [] }

-- no revision, no feed that was cut, all caches at the base, and any number of clients of whom none watches
abbrev pub opening : ℕ → List RowData → ℕ → ℕ → World
opening first base window window_max = record {
  log = record { first = first; base = base; revisions = [] };
  floor = first;
  generation = 0;
  window = window;
  window_max = window_max;
  caches = new_cache first;
  clients = new_client first;
}
