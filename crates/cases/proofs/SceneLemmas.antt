-- What holds between the parts of a scene goes on holding as its pass learns and as its lanes change.
use Rattle.std.proofs.Common.{◌≡◌, ℕ, List, Option, Some, None, sym, ap, ◌∙◌, subst, arith}
use Rattle.kube_meta.specs.Rows.{RowData}
use Rattle.rev_front.specs.Passes.{Pass}
use Rattle.rev_log.specs.Changes.{RevisionData}
use Rattle.rev_log.specs.Logs.{Log}
use Rattle.up_api.specs.Sections.{StandsAt, Learns, log_upto}
use Rattle.up_api.specs.declared.feeds.Feed.{Feed}
use Rattle.up_api.proofs.SectionLemmas.{stands-later}
use Rattle.cache_core.specs.Caches.{CacheData}
use Rattle.reflect_core.specs.Pumps.{ReflectorState, IsKnown}
use Rattle.cache_hub.specs.Hubs.{HubData, StandsFor, OnlyLanes}
use Rattle.cases.specs.Scenes.{IsScene}

known_on : (feed : Option Feed) (p q : Pass RevisionData) → Learns p q → IsKnown feed p → IsKnown feed q
known_on None p q learns is = tt
known_on (Some feed) p q learns is = let on = learns.extends.gen_on in omega (arith, is)

pub learns_on : (base : List RowData) (hub : HubData) (p q : Pass RevisionData) (reflector : ReflectorState) → Learns p q → IsScene base hub p reflector → IsScene base hub q reflector
learns_on base hub p q reflector learns is = record {
  of = is.of;
  reflects = is.reflects;
  stands = stands-later {S = λ log. StandsFor log hub} base p q hub.cache.end learns.extends is.stands;
  known = known_on reflector.feed p q learns is.known;
}

-- of a cache of the same resource that ends where it did
pub same_end_on : (base : List RowData) (hub later : HubData) (p : Pass RevisionData) (reflector : ReflectorState) → later.cache.resource ≡ hub.cache.resource → later.cache.end ≡ hub.cache.end → ((log : Log) → StandsFor log hub → StandsFor log later) → IsScene base hub p reflector → IsScene base later p reflector
same_end_on base hub later p reflector of end so is = record {
  of = of ∙ is.of;
  reflects = is.reflects;
  stands = subst (λ (n : ℕ). StandsAt (λ log. StandsFor log later) base p n) (sym end) (record { begun = is.stands.begun; within = is.stands.within; stands = so (log_upto base p hub.cache.end) is.stands.stands });
  known = is.known;
}

pub lanes_on : (base : List RowData) (hub later : HubData) (p : Pass RevisionData) (reflector : ReflectorState) → later.cache ≡ hub.cache → ((log : Log) → StandsFor log hub → StandsFor log later) → IsScene base hub p reflector → IsScene base later p reflector
lanes_on base hub later p reflector same so =
    same_end_on base hub later p reflector (ap (λ (c : CacheData). c.resource) same) (ap (λ (c : CacheData). c.end) same) so
