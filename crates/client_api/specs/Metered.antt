-- What a client tells a monitor, between what was known before and what is known afterwards.
use Rattle.std.specs.Prelude.{◌≡◌, ◌≤◌, List, length, IfSome, Result, Ok, Err}
use Rattle.std.specs.declared.alloc.AllocError.{AllocError}
use Rattle.kube_meta.specs.Rows.{RowData}
use Rattle.kube_meta.specs.declared.resources.Resource.{Resource}
use Rattle.kube_meta.specs.declared.resources.Resource.TheVariants.{Pods, ConfigMaps, Deployments}
use Rattle.rev_front.specs.Passes.{Pass, end_from, last_of}
use Rattle.rev_log.specs.Changes.{RevisionData}
use Rattle.rev_log.specs.States.{IsStateAt}
use Rattle.up_api.specs.Sections.{log_of}
use Rattle.metrics.specs.declared.caches.Metrics.{Metrics}
use Rattle.metrics.specs.declared.caches.CacheMetrics.{CacheMetrics}
use Rattle.client_api.specs.Facts.{HasLoaded}

-- a cache's end is one that is seen, and its objects are those of the log's state there; what else it tells of itself
-- nobody else can know
pub record IsCacheMetrics (base : List RowData) (resource : Resource) (q : Pass RevisionData) (cache : CacheMetrics) : Type 0 where
  pub seen : cache.end ≤ end_from q.first q.seen
  pub rows : List RowData
  pub state : IsStateAt (log_of base q) resource cache.end rows
  pub objects : cache.objects ≡ length rows

-- Metrics of one moment: the end of the log as it is known then, which is at least what a load of this very call gave,
-- its floor and its generation; and of each cache what holds of a cache.
pub record AreMetrics (base : List RowData) (p : Pass RevisionData) (told : Metrics) (q : Pass RevisionData) : Type 0 where
  pub loaded : HasLoaded p q
  pub fresh : last_of q ≤ told.revision
  pub revision : told.revision ≡ end_from q.first q.seen
  pub floor : told.floor ≡ q.floor
  pub generation : told.generation ≡ q.gen
  pub pods : IfSome told.pods (IsCacheMetrics base Pods q)
  pub config_maps : IfSome told.config_maps (IsCacheMetrics base ConfigMaps q)
  pub deployments : IfSome told.deployments (IsCacheMetrics base Deployments q)

-- what a client answers that is asked for its metrics; of want of memory nothing is said
abbrev pub AreMetricsAnswered : List RowData → Pass RevisionData → Result Metrics AllocError → Pass RevisionData → Type 0
AreMetricsAnswered base p (Ok told) q = AreMetrics base p told q
AreMetricsAnswered base p (Err memory) q = Unit {0}
