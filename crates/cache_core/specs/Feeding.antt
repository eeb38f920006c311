-- What a cache is fed, and what it is then.
use Rattle.std.specs.Prelude.{◌≡◌, ℕ, ◌≤◌, All}
use Rattle.kube_meta.specs.declared.resources.Resource.{Resource}
use Rattle.rev_log.specs.Logs.{Log}
use Rattle.up_api.specs.Feeds.{PolledData, HistoryData, IsFed, IsHistory}
use Rattle.up_api.specs.declared.settings.Settings.{Settings}
use Rattle.cache_core.specs.Caches.{CacheData, IsCacheOf, AreFitting, log_at}

-- the history is one of the resource in this log
pub record IsHistoryOf (log : Log) (resource : Resource) (history : HistoryData) : Type 0 where
  pub fitting : AreFitting log
  pub log_floor : ℕ
  pub is : IsHistory log log_floor resource history

-- the poll goes on in this log from where the cache ends, which stands for it up to there
pub record Feeds (log : Log) (cache : CacheData) (polled : PolledData) : Type 0 where
  pub fitting : AreFitting log
  pub stands : IsCacheOf (log_at log cache.end) cache
  pub begins : polled.from ≡ cache.end
  pub fed : IsFed log cache.resource polled

-- what no feed changes
pub record Stays (old new : CacheData) : Type 0 where
  pub resource : new.resource ≡ old.resource
  pub time : new.time ≡ old.time
  pub window : new.ring.window ≡ old.ring.window
  pub window_max : new.ring.window_max ≡ old.ring.window_max
  pub fresh_ms : new.ring.fresh_ms ≡ old.ring.fresh_ms

-- what a cache is that was just built from a history
pub record IsBuilt (resource : Resource) (history : HistoryData) (settings : Settings) (cache : CacheData) : Type 0 where
  pub resource_is : cache.resource ≡ resource
  pub base : cache.base ≡ history.floor
  pub end : cache.end ≡ history.upto
  pub time : cache.time ≡ 0
  pub window : cache.ring.window ≡ settings.window
  pub window_max : cache.ring.window_max ≡ settings.window_max
  pub fresh_ms : cache.ring.fresh_ms ≡ settings.fresh_ms

-- what a cache is that was built anew from one: the ring's capacity is no smaller, and all that it holds was pushed at
-- the present time
pub record IsRebuilt (history : HistoryData) (old new : CacheData) : Type 0 where
  pub stays : Stays old new
  pub base : new.base ≡ history.floor
  pub end : new.end ≡ history.upto
  pub capacity : 1 ≤ old.ring.fresh_ms → old.ring.capacity ≤ new.ring.capacity
  pub times : 1 ≤ old.ring.fresh_ms → All (λ x. x.stamp ≡ old.time) new.ring.held
