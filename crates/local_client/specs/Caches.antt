-- A store with a cache of each resource, which nobody else holds, as plain data.
use Rattle.std.specs.Prelude.{◌≡◌, ℕ, Option, Some}
use Rattle.kube_meta.specs.declared.resources.Resource.{Resource}
use Rattle.kube_meta.specs.declared.resources.Resource.TheVariants.{Pods, ConfigMaps, Deployments}
use Rattle.up_api.specs.Sections.{raised_once}
use Rattle.up_store.specs.Stores.{StoreData}
use Rattle.client_api.specs.Facts.{Cached}
use Rattle.cached_client.specs.Caches.{CachesFacts, CachesState}
use Rattle.cached_client.specs.CacheStates.{CacheStateData}

pub record CachesData : Type 0 where
  pub pods : CacheStateData
  pub config_maps : CacheStateData
  pub deployments : CacheStateData

abbrev pub cache_of : CachesData → Resource → CacheStateData
cache_of caches Pods = caches.pods
cache_of caches ConfigMaps = caches.config_maps
cache_of caches Deployments = caches.deployments

-- the revision up to which the cache of a resource stands for the log
abbrev pub end_at : CachesData → Resource → ℕ
end_at caches resource = (cache_of caches resource).hub.cache.end

-- the greatest time that the cache of each resource was told
abbrev pub times_of : CachesData → Resource → Option ℕ
times_of caches resource = Some (cache_of caches resource).hub.cache.time

-- how many changes of a resource the caches keep at least: that of pods, and so that of each
abbrev pub window_in : CachesData → ℕ
window_in caches = caches.pods.hub.cache.ring.window

-- the caches of config maps and deployments have the window of that of pods
pub record HaveOneWindow (caches : CachesData) : Type 0 where
  pub config_maps : caches.config_maps.hub.cache.ring.window ≡ window_in caches
  pub deployments : caches.deployments.hub.cache.ring.window ≡ window_in caches

-- each of them was built anew
abbrev pub AreBuiltAnew : CachesData → CachesData → Type 0
AreBuiltAnew old new = (resource : Resource) → (cache_of new resource).hub.rebuilds ≡ raised_once (cache_of old resource).hub.rebuilds

-- the store, and the caches that follow it
pub record SoleData : Type 0 where
  pub store : StoreData
  pub caches : CachesData

-- what clients see of them that no read changes
abbrev pub facts_in : SoleData → CachesFacts
facts_in sole = record {
  own = Some sole.store.whole;
  history = Some sole.store.history;
  window = window_in sole.caches;
  pods_time = Some sole.caches.pods.hub.cache.time;
  config_maps_time = Some sole.caches.config_maps.hub.cache.time;
  deployments_time = Some sole.caches.deployments.hub.cache.time;
}

-- and what they may change
abbrev pub state_in : SoleData → CachesState
state_in sole = record { reads = Some sole.store.reads; ends = end_at sole.caches }

abbrev pub cached_in : SoleData → Cached
cached_in sole = record { reads = sole.store.reads; ends = end_at sole.caches }
