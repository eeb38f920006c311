-- A cache follows the log as what is known of it goes on.
use Rattle.std.specs.Prelude.{unwrap_or}
use Rattle.std.proofs.Common.{◌≡◌, ℕ, ◌≤◌, ◌⊎◌, inl, inr, Option, Some, None, List, ap, sym, ◌∙◌, subst, arith}
use Rattle.kube_meta.specs.Rows.{RowData}
use Rattle.kube_meta.specs.declared.resources.Resource.{Resource}
use Rattle.rev_front.specs.Passes.{Pass, Extends}
use Rattle.rev_log.specs.Changes.{RevisionData}
use Rattle.rev_log.specs.Logs.{Log}
use Rattle.up_api.specs.declared.feeds.Feed.{Feed}
use Rattle.up_api.specs.Sections.{StandsAt, log_upto}
use Rattle.reflect_core.specs.Pumps.{IsKnown}
use Rattle.cache_core.specs.Caches.{CacheData}
use Rattle.cache_core.specs.Feeding.{Stays}
use Rattle.cache_hub.specs.Hubs.{HubData, OnlyLanes, StandsFor}
use Rattle.cached_client.specs.Knowing.{KnowsAllOf}
use Rattle.cached_client.specs.CacheStates.{CacheStateData, IsFollowing}
use Rattle.cached_client.proofs.KnowingLemmas.{extends_knows, stands_known}

-- a feed of a generation that was known is of one that is known
known-later : (p q : Pass RevisionData) (feed : Option Feed) → p.gen ≤ q.gen → IsKnown feed p → IsKnown feed q
known-later p q None rises known = tt
known-later p q (Some feed) rises known = omega (arith, rises, known)

-- a window that stays is still the one that is told, where one is
same-window : (window : Option ℕ) {n m : ℕ} → m ≡ n → n ≡ unwrap_or window n → m ≡ unwrap_or window m
same-window window same is = subst (λ k. k ≡ unwrap_or window k) (sym same) is

-- as more is known
pub follows_known : (base : List RowData) (window : Option ℕ) (resource : Resource) (c : CacheStateData) (q : Pass RevisionData) → KnowsAllOf c.pass q → IsFollowing base window resource c →
    IsFollowing base window resource (record c { pass = q })
follows_known base window resource c q knows is = record {
  cache_is = is.cache_is;
  reflector_is = is.reflector_is;
  window_is = is.window_is;
  stands = stands_known base c.pass q c.hub.cache.end knows is.stands;
  known = known-later c.pass q c.reflector.feed knows.gen_on is.known;
  built = omega (arith, is.built, knows.floor_on);
}

pub follows_later : (base : List RowData) (window : Option ℕ) (resource : Resource) (c : CacheStateData) (q : Pass RevisionData) → Extends c.pass q → IsFollowing base window resource c →
    IsFollowing base window resource (record c { pass = q })
follows_later base window resource c q later is = follows_known base window resource c q (extends_knows c.pass q later) is

-- after a pump
pub follows_pumped : (base : List RowData) (window : Option ℕ) (resource : Resource) (old new : CacheStateData) → IsFollowing base window resource old → Extends old.pass new.pass →
    new.hub.cache.resource ≡ old.hub.cache.resource → new.reflector.resource ≡ old.reflector.resource → new.hub.cache.ring.window ≡ old.hub.cache.ring.window →
    StandsAt (λ log. StandsFor log new.hub) base new.pass new.hub.cache.end → IsKnown new.reflector.feed new.pass →
    (new.hub.cache.base ≡ old.hub.cache.base) ⊎ (new.hub.cache.base ≤ new.pass.floor) → IsFollowing base window resource new
follows_pumped base window resource old new is later cache reflector window_same stands known based = record {
  cache_is = cache ∙ is.cache_is;
  reflector_is = reflector ∙ is.reflector_is;
  window_is = same-window window window_same is.window_is;
  stands = stands;
  known = known;
  built = elim based [
    | inl same ↦ omega (arith, same, is.built, later.floor_on)
    | inr low ↦ low
  ];
}

-- after it was built anew
pub follows_rebuilt : (base : List RowData) (window : Option ℕ) (resource : Resource) (c : CacheStateData) (hub : HubData) (q : Pass RevisionData) → IsFollowing base window resource c → Extends c.pass q →
    Stays c.hub.cache hub.cache → hub.cache.base ≤ q.floor → StandsAt (λ log. StandsFor log hub) base q hub.cache.end → IsFollowing base window resource (record { hub = hub; reflector = c.reflector; pass = q })
follows_rebuilt base window resource c hub q is later stays based stands = record {
  cache_is = stays.resource ∙ is.cache_is;
  reflector_is = is.reflector_is;
  window_is = same-window window stays.window is.window_is;
  stands = stands;
  known = known-later c.pass q c.reflector.feed later.gen_on is.known;
  built = based;
}

-- one that has other lanes, or another time
pub follows_hub : (base : List RowData) (window : Option ℕ) (resource : Resource) (c : CacheStateData) (hub : HubData) → IsFollowing base window resource c →
    hub.cache.resource ≡ c.hub.cache.resource → hub.cache.ring.window ≡ c.hub.cache.ring.window → hub.cache.base ≡ c.hub.cache.base → hub.cache.end ≡ c.hub.cache.end →
    ((log : Log) → StandsFor log c.hub → StandsFor log hub) → IsFollowing base window resource (record c { hub = hub })
follows_hub base window resource c hub is same_resource same_window based end stands = record {
  cache_is = same_resource ∙ is.cache_is;
  reflector_is = is.reflector_is;
  window_is = same-window window same_window is.window_is;
  stands = subst (λ e. StandsAt (λ log. StandsFor log hub) base c.pass e) (sym end)
      (record { begun = is.stands.begun; within = is.stands.within; stands = stands (log_upto base c.pass c.hub.cache.end) is.stands.stands });
  known = is.known;
  built = omega (arith, based, is.built);
}

pub follows_lanes : (base : List RowData) (window : Option ℕ) (resource : Resource) (c : CacheStateData) (hub : HubData) → IsFollowing base window resource c → OnlyLanes c.hub hub →
    ((log : Log) → StandsFor log c.hub → StandsFor log hub) → IsFollowing base window resource (record c { hub = hub })
follows_lanes base window resource c hub is lanes stands = follows_hub base window resource c hub is (ap (λ (x : CacheData). x.resource) lanes.cache) (ap (λ (x : CacheData). x.ring.window) lanes.cache)
    (ap (λ (x : CacheData). x.base) lanes.cache) (ap (λ (x : CacheData). x.end) lanes.cache) stands

pub follows_ticked : (base : List RowData) (window : Option ℕ) (resource : Resource) (c : CacheStateData) (hub : HubData) (time : ℕ) → IsFollowing base window resource c → hub ≡ record c.hub { cache = record c.hub.cache { time = time } } →
    ((log : Log) → StandsFor log c.hub → StandsFor log hub) → IsFollowing base window resource (record c { hub = hub })
follows_ticked base window resource c hub time is ticked stands = follows_hub base window resource c hub is (ap (λ (x : HubData). x.cache.resource) ticked) (ap (λ (x : HubData). x.cache.ring.window) ticked)
    (ap (λ (x : HubData). x.cache.base) ticked) (ap (λ (x : HubData). x.cache.end) ticked) stands
