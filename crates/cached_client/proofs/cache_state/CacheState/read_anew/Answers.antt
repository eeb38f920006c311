use Rattle.std.proofs.Common.{ap, arith, subst, sym, ◌∙◌}
use Rattle.kube_meta.specs.declared.resources.Resource.{Resource}
use Rattle.rev_front.specs.Passes.{Extends, Pass}
use Rattle.rev_log.specs.Changes.{RevisionData}
use Rattle.up_api.specs.Feeds.{IsHistory}
use Rattle.up_api.specs.Sections.{log_of}
use Rattle.cached_client.proofs.CacheLemmas.{follows_later, follows_rebuilt}
use Rattle.cached_client.proofs.cache_state.CacheState.read_anew.Goals as goal

pub invariant_of-self : goal.invariant_of-self
invariant_of-self g c = follows_later _ _ _ _ c.history.new.told c.history.ensures.learns.extends c.self.invariant

pub invariant_of-self-2 : goal.invariant_of-self-2
invariant_of-self-2 g c =
    let e = c.in_ok-build_anew.ensures in
    follows_rebuilt _ _ _ _ c.build_anew.new.self c.build_anew.new.told c.self.invariant (subst (Extends c.self.inside.pass) (sym e.told) c.history.ensures.learns.extends) e.rebuilt.stays
    (omega (arith, e.rebuilt.base, c.in_ok-history.ensures.history.kept, ap (λ (p : Pass RevisionData). p.floor) e.told)) e.stands

pub build_anew-requires-clause-history : goal.build_anew-requires-clause-history
build_anew-requires-clause-history g c =
    subst (λ (r : Resource). IsHistory (log_of g.N.LogFacts.base c.history.new.told) c.history.new.told.floor r c.in_ok-history.history) (c.resource.ensures ∙ sym c.self.invariant.cache_is) c.in_ok-history.ensures.history
