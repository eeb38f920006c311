-- What a client tells of itself in contracts, and what holds of what it knows.
use Rattle.std.specs.Prelude.{◌≡◌, ℕ, ◌<◌, ◌≤◌, max, Bool, true, Option, Some, None, option_map, length, if◌then◌else◌}
use Rattle.kube_meta.specs.Resources.{same_resource}
use Rattle.kube_meta.specs.declared.resources.Resource.{Resource}
use Rattle.kube_meta.specs.declared.resources.Resource.TheVariants.{Pods, ConfigMaps, Deployments}
use Rattle.rev_front.specs.Passes.{Authored, Pass, IsPass, Extends, last_of}
use Rattle.rev_log.specs.Changes.{RevisionData}
use Rattle.rev_log.specs.Logs.{Fits}
use Rattle.select_all.specs.declared.selection.Selection.{Selection}
use Rattle.client_api.specs.declared.resources.Resources.{Resources}

-- a watch: what it is of, and its position, the revision up to which all is told
pub record Watched : Type 0 where
  pub selection : Selection
  pub position : ℕ

-- whether a resource is among these
abbrev pub is_among : Resources → Resource → Bool
is_among these Pods = these.pods
is_among these ConfigMaps = these.config_maps
is_among these Deployments = these.deployments

-- all resources
abbrev pub all_served : Resources
all_served = record { pods = true; config_maps = true; deployments = true }

-- The watch, if there is one; the greatest time that was told; what of the log is the client's own doing: how many
-- revisions it committed, and how many cuts and compactions were its orders; how many changes of a resource the caches
-- keep at least; where nobody else holds the log, how many revisions its floor is behind its end at most; which resources
-- the server has; and whether it takes operations on its log. No call changes the last four.
pub record Facts : Type 0 where
  pub watching : Option Watched
  pub heard : ℕ
  pub did : Authored
  pub window : ℕ
  pub sole_history : Option ℕ
  pub resources : Resources
  pub operable : Bool

-- nothing changed but what is the client's own doing
abbrev pub Acts : Facts → Facts → Type 0
Acts old new = new ≡ record old { did = new.did }

-- nor but that, and the times that were told
abbrev pub Rests : Facts → Facts → Type 0
Rests old new = new ≡ record old { heard = new.heard; did = new.did }

-- how often the store's states and histories were read, and where the cache of each resource ends
pub record Cached : Type 0 where
  pub reads : ℕ
  pub ends : Resource → ℕ

-- the greatest times that the caches were told, one of each resource that has a cache, after that of a resource was told
-- one more
abbrev pub with_time : Resource → ℕ → (Resource → Option ℕ) → Resource → Option ℕ
with_time told ms times resource = option_map (λ heard. if same_resource resource told then max heard ms else heard) (times resource)

-- a tick tells its time to the cache of the watch's resource, where there is a watch
abbrev pub ticked : Option Watched → ℕ → (Resource → Option ℕ) → Resource → Option ℕ
ticked None ms times = times
ticked (Some watched) ms times = with_time watched.selection.resource ms times

-- what is known goes on: nothing is forgotten, nothing goes back, and what holds of every pass stays
pub record IsOnward (p q : Pass RevisionData) : Type 0 where
  pub extends : Extends p q
  pub lawful : IsPass Fits p → IsPass Fits q

-- the revision that the log has reached was loaded in between, and the last load isn't below what was shown before
abbrev pub HasLoaded : Pass RevisionData → Pass RevisionData → Type 0
HasLoaded p q = (length p.loads < length q.loads) × (p.shown ≤ last_of q)
