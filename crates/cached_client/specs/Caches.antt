-- What clients see of caches, however they are held, and what a call of a client leaves of its pass.
use Rattle.std.specs.Prelude.{◌≡◌, ℕ, ◌≤◌, List, ◌++◌, All, Option, IfSome}
use Rattle.kube_meta.specs.declared.resources.Resource.{Resource}
use Rattle.rev_front.specs.Passes.{Pass, Whole}
use Rattle.rev_log.specs.Changes.{RevisionData}
use Rattle.up_store.specs.Stores.{KnowsAll}
use Rattle.reflect_core.specs.Pumps.{HasCause, MayRiseFor}

-- The log, where nobody else holds it, and how many revisions its floor is behind its end at most; how many changes of
-- a resource the caches keep at least; and the greatest time that each cache was told, where that is known.
pub record CachesFacts : Type 0 where
  pub own : Option (Whole RevisionData)
  pub history : Option ℕ
  pub window : ℕ
  pub pods_time : Option ℕ
  pub config_maps_time : Option ℕ
  pub deployments_time : Option ℕ

-- how often the states and histories of the store were read, where that is known, and where the cache of each resource
-- ends
pub record CachesState : Type 0 where
  pub reads : Option ℕ
  pub ends : Resource → ℕ

-- where nobody else holds the log, the pass knows it whole
abbrev pub KnowsOwn : CachesFacts → Pass RevisionData → Type 0
KnowsOwn facts p = IfSome facts.own (λ whole. KnowsAll whole p)

-- some loads were made, each of which gave no less than was shown before and no more than is shown then
pub record LoadsBetween (p q : Pass RevisionData) : Type 0 where
  pub more : List ℕ
  pub loads : q.loads ≡ p.loads ++ more
  pub within : All (λ load. (p.shown ≤ load) × (load ≤ q.shown)) more

-- the store was read once more at most, and only where the cache of the resource was built anew
abbrev pub ReadsFor : Resource → Pass RevisionData → Pass RevisionData → CachesState → CachesState → Type 0
ReadsFor resource p q old new = MayRiseFor (HasCause (old.ends resource) p q) old.reads new.reads
