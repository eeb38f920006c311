-- The cache of one resource with its lanes, as plain data.
use Rattle.std.specs.Prelude.{◌≡◌, ℕ, Option, Some, None, option_map}
use Rattle.rev_log.specs.Logs.{Log}
use Rattle.cache_core.specs.Caches.{CacheData, IsCacheOf}
use Rattle.cache_hub.specs.OpenLanes.{LanesData, AreOf, AreInStep, SetsLane, open_at, caught_up}

-- the cache, how often it was built anew, and the lanes of those who watch it
pub record HubData : Type 0 where
  pub cache : CacheData
  pub rebuilds : ℕ
  pub lanes : LanesData

-- It stands for the log: the cache does, the lanes are of its resource, and each one that isn't behind misses nothing
-- up to the cache's end.
pub record StandsFor (log : Log) (hub : HubData) : Type 0 where
  pub cache : IsCacheOf log hub.cache
  pub of : AreOf hub.cache.resource hub.lanes.all
  pub in_step : AreInStep log hub.cache.end hub.lanes.all

-- nothing but lanes was changed
pub record OnlyLanes (old new : HubData) : Type 0 where
  pub cache : new.cache ≡ old.cache
  pub rebuilds : new.rebuilds ≡ old.rebuilds
  pub room : new.lanes.room ≡ old.lanes.room

-- the lane under a number, if one is given, is that of a watch which has caught up to a revision
abbrev pub HasCaughtUp : Option ℕ → ℕ → HubData → HubData → Type 0
HasCaughtUp None upto old new = new ≡ old
HasCaughtUp (Some id) upto old new =
    SetsLane old.lanes.all new.lanes.all id (option_map (caught_up upto old.cache.end) (open_at old.lanes.all id))
