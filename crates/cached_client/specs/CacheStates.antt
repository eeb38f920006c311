-- The cache of one resource as plain data, and what its type keeps.
use Rattle.std.specs.Prelude.{◌≡◌, ℕ, ◌+◌, ◌<◌, ◌≤◌, ◌⊎◌, List, Option, None, unwrap_or}
use Rattle.kube_meta.specs.Rows.{RowData}
use Rattle.kube_meta.specs.declared.resources.Resource.{Resource}
use Rattle.rev_front.specs.Passes.{Pass, Extends}
use Rattle.rev_log.specs.Changes.{RevisionData}
use Rattle.up_api.specs.Sections.{Learns, StandsAt}
use Rattle.reflect_core.specs.Pumps.{ReflectorState, IsKnown, HasCause, RisesFor, generation_of, raised}
use Rattle.reflect_core.specs.declared.pump.Pumped.{Pumped}
use Rattle.cache_hub.specs.Hubs.{HubData, StandsFor}
use Rattle.cached_client.specs.Knowing.{KnowsAllOf}

-- the cache, what keeps it up to date, and what is known of the log with it
pub record CacheStateData : Type 0 where
  pub hub : HubData
  pub reflector : ReflectorState
  pub pass : Pass RevisionData

-- What its type keeps: cache and reflector are of the resource, the cache's window is this one, where one is told, the
-- cache stands for the log up to its end, which is seen, the reflector's feed is of no later generation than
-- is known, and the cache was built from no later revision than the log's floor.
pub record IsFollowing (base : List RowData) (window : Option ℕ) (resource : Resource) (c : CacheStateData) : Type 0 where
  pub cache_is : c.hub.cache.resource ≡ resource
  pub reflector_is : c.reflector.resource ≡ resource
  pub window_is : c.hub.cache.ring.window ≡ unwrap_or window c.hub.cache.ring.window
  pub stands : StandsAt (λ log. StandsFor log c.hub) base c.pass c.hub.cache.end
  pub known : IsKnown c.reflector.feed c.pass
  pub built : c.hub.cache.base ≤ c.pass.floor

-- What each section leaves of a caller's pass, p before and q after: it goes on with no load, and knows all that is
-- known with the cache, where nothing is forgotten.
pub record IsSection (old new : CacheStateData) (p q : Pass RevisionData) : Type 0 where
  pub learns : Learns p q
  pub knows : KnowsAllOf new.pass q
  pub onward : Extends old.pass new.pass

-- nothing changed but what is known, and the lanes
pub record KeepsCache (old new : CacheStateData) : Type 0 where
  pub cache : new.hub.cache ≡ old.hub.cache
  pub rebuilds : new.hub.rebuilds ≡ old.hub.rebuilds
  pub reflector : new.reflector ≡ old.reflector

-- ---- what a pump did, where p was known before and q is known then

-- it reached a revision
pub record IsPumped (old new : CacheStateData) (p q : Pass RevisionData) (until : ℕ) (pumped : Pumped) : Type 0 where
  pub reached : until ≤ pumped.end
  pub end_is : pumped.end ≡ new.hub.cache.end
  pub few : (pumped.cuts ≤ 2) × (pumped.rebuilds ≤ 1)
  pub cuts : generation_of old.reflector.feed p + pumped.cuts ≤ q.gen
  pub rebuilds : new.hub.rebuilds ≡ raised pumped.rebuilds old.hub.rebuilds
  pub cause : pumped.rebuilds ≡ 1 → (old.hub.cache.end < q.floor) ⊎ ((pumped.cuts ≡ 2) × (p.gen < q.gen))

-- it broke off for want of memory: the next one begins a new feed
pub record IsBrokenOff (old new : CacheStateData) (p q : Pass RevisionData) : Type 0 where
  pub fresh : new.reflector.feed ≡ None
  pub rebuilds : RisesFor (HasCause old.hub.cache.end p q) old.hub.rebuilds new.hub.rebuilds

-- whatever it answered: the cache doesn't go back, and was built where it was, or from a floor that is known
pub record GoesOn (old new : CacheStateData) (q : Pass RevisionData) : Type 0 where
  pub onward : old.hub.cache.end ≤ new.hub.cache.end
  pub base : (new.hub.cache.base ≡ old.hub.cache.base) ⊎ (new.hub.cache.base ≤ q.floor)
