-- What a monitor is told of a log and its caches.
use Rattle.std.proofs.Common.{◌≡◌, ℕ, ◌≤◌, List, Some, None, ap, length, sym, subst, arith}
use Rattle.kube_meta.specs.Rows.{RowData}
use Rattle.kube_meta.specs.declared.resources.Resource.{Resource}
use Rattle.kube_meta.specs.declared.resources.Resource.TheVariants.{Pods, ConfigMaps, Deployments}
use Rattle.rev_front.specs.Passes.{Pass, Extends, end_from, last_of}
use Rattle.rev_front.proofs.Beginnings.{prefix_length}
use Rattle.rev_front.proofs.Passing.{extends_trans}
use Rattle.rev_log.specs.Changes.{RevisionData}
use Rattle.rev_log.specs.Logs.{Log}
use Rattle.rev_log.specs.States.{IsStateAt}
use Rattle.rev_log.proofs.GrowthLemmas.{IsStateAt-grown}
use Rattle.up_api.specs.Sections.{Learns, log_of}
use Rattle.up_api.proofs.SectionLemmas.{logs_grow_on}
use Rattle.reflect_core.proofs.PumpLemmas.{learns-on}
use Rattle.metrics.specs.declared.caches.CacheMetrics.{CacheMetrics}
use Rattle.client_api.specs.Facts.{HasLoaded}
use Rattle.client_api.specs.Metered.{AreMetrics, IsCacheMetrics}

-- those of a cache, as more is known
metered_on : (base : List RowData) (resource : Resource) (p q : Pass RevisionData) (cache : CacheMetrics) → Extends p q → IsCacheMetrics base resource p cache → IsCacheMetrics base resource q cache
metered_on base resource p q cache later is = record {
  seen = omega (arith, is.seen, later.log_is, prefix_length p.seen q.seen later.seen_on);
  rows = is.rows;
  state = subst (λ (log : Log). IsStateAt log resource cache.end is.rows) (sym (logs_grow_on base p q later)) (IsStateAt-grown (log_of base p) later.seen_on.0 resource cache.end is.rows is.seen is.state);
  objects = is.objects;
}

-- those of the caches, one after the other, and then a load
pub metrics_are : (base : List RowData) (p one two three q : Pass RevisionData) (revision floor generation : ℕ) (pods config_maps deployments : CacheMetrics) → Learns p one → Learns one two → Learns two three → Extends three q →
    HasLoaded three q → last_of q ≤ end_from q.first q.seen → revision ≡ end_from q.first q.seen → floor ≡ q.floor → generation ≡ q.gen → IsCacheMetrics base Pods one pods → IsCacheMetrics base ConfigMaps two config_maps → IsCacheMetrics base Deployments three deployments →
    AreMetrics base p (record {
      revision = revision;
      floor = floor;
      generation = generation;
      pods = Some pods;
      config_maps = Some config_maps;
      deployments = Some deployments;
      served = None;
    }) q
metrics_are base p one two three q revision floor generation pods config_maps deployments first second third later loaded fresh end low cuts of_pods of_config_maps of_deployments =
    let learnt = learns-on p one three first (learns-on one two three second third) in
    record {
      loaded = (omega (arith, loaded.0, ap length learnt.loads_stay), omega (arith, loaded.1, learnt.extends.shown_on));
      fresh = omega (arith, fresh, end);
      revision = end;
      floor = low;
      generation = cuts;
      pods = metered_on base Pods one q pods (extends_trans one three q (learns-on one two three second third).extends later) of_pods;
      config_maps = metered_on base ConfigMaps two q config_maps (extends_trans two three q third.extends later) of_config_maps;
      deployments = metered_on base Deployments three q deployments later of_deployments;
    }
