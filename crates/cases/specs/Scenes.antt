-- What holds between the parts of a scene.
use Rattle.std.specs.Prelude.{◌≡◌, List}
use Rattle.kube_meta.specs.Rows.{RowData}
use Rattle.kube_meta.specs.declared.resources.Resource.TheVariants.{Pods}
use Rattle.rev_front.specs.Passes.{Pass}
use Rattle.rev_log.specs.Changes.{RevisionData}
use Rattle.up_api.specs.Sections.{StandsAt}
use Rattle.reflect_core.specs.Pumps.{ReflectorState, IsKnown}
use Rattle.cache_hub.specs.Hubs.{HubData, StandsFor}

-- the cache of the pods stands for what the pass has seen, up to the cache's end, and the reflector keeps it so
pub record IsScene (base : List RowData) (hub : HubData) (told : Pass RevisionData) (reflector : ReflectorState) : Type 0 where
  pub of : hub.cache.resource ≡ Pods
  pub reflects : reflector.resource ≡ Pods
  pub stands : StandsAt (λ log. StandsFor log hub) base told hub.cache.end
  pub known : IsKnown reflector.feed told
