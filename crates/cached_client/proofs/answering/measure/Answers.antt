use Rattle.std.proofs.Common.{◌≤◌, ap, length, subst, sym, ◌∙◌, arith}
use Rattle.rev_front.specs.Passes.{Pass, end_from, last_or}
use Rattle.rev_log.specs.Changes.{RevisionData}
use Rattle.up_api.specs.Sections.{Learns}
use Rattle.rev_front.proofs.Passing.{extends_trans}
use Rattle.reflect_core.proofs.PumpLemmas.{learns-on}
use Rattle.cached_client.proofs.CallLemmas.{knew, loads_around}
use Rattle.cached_client.proofs.MeasureLemmas.{metrics_are}
use Rattle.cached_client.proofs.answering.measure.Goals as goal

pub settle-requires : goal.settle-requires
settle-requires g c = record {
  knew = knew (g.C.Caches.facts c.load-reached.new.caches) (g.C.Caches.facts c.see-seen.new.self) c.load-reached.new.told c.see-seen.new.told c.see-seen.ensures.facts c.load-reached.ensures.knows c.see-seen.ensures.learns.extends;
}

pub returns-clause-answer : goal.returns-clause-answer
returns-clause-answer g c =
    let three = c.metrics-deployments.new.told in
    let q = c.settle.new.told in
    let same = sym c.settle.ensures.told in
    let learns : Learns c.load-reached.new.told q = subst (Learns c.load-reached.new.told) same c.see-seen.ensures.learns in
    metrics_are g.N.LogFacts.base c.args.told.now c.metrics-pods.new.told c.metrics-config_maps.new.told three q c.end.result c.floor.result c.in_ok-generation.generation c.metrics-pods.result c.metrics-config_maps.result c.metrics-deployments.result
    c.metrics-pods.ensures.learns c.metrics-config_maps.ensures.learns c.metrics-deployments.ensures.learns (extends_trans three c.load-reached.new.told q c.load-reached.ensures.onward.extends learns.extends)
    (omega (arith, c.load-reached.ensures.loaded.0, ap length learns.loads_stay), omega (arith, c.load-reached.ensures.loaded.1, ap (last_or 0) learns.loads_stay))
    (omega (arith, c.load-reached.ensures.last, ap (last_or 0) learns.loads_stay, subst (λ (x : Pass RevisionData). c.load-reached.result ≤ end_from x.first x.seen) same c.in_ok-generation.ensures.fresh)) c.end.ensures c.floor.ensures
    (c.in_ok-generation.ensures.generation ∙ ap (λ (x : Pass RevisionData). x.gen) same)
    c.metrics-pods.ensures.metrics c.metrics-config_maps.ensures.metrics c.metrics-deployments.ensures.metrics

pub returns-in_err-generation-clause-loads : goal.returns-in_err-generation-clause-loads
returns-in_err-generation-clause-loads g c =
    loads_around c.args.told.now c.metrics-deployments.new.told c.load-reached.new.told c.settle.new.told
    (learns-on _ _ _ c.metrics-pods.ensures.learns (learns-on _ _ _ c.metrics-config_maps.ensures.learns c.metrics-deployments.ensures.learns)) c.load-reached.ensures.loads
    (subst (Learns c.load-reached.new.told) (sym c.settle.ensures.told) c.see-seen.ensures.learns)

pub returns-clause-loads : goal.returns-clause-loads
returns-clause-loads g c =
    loads_around c.args.told.now c.metrics-deployments.new.told c.load-reached.new.told c.settle.new.told
    (learns-on _ _ _ c.metrics-pods.ensures.learns (learns-on _ _ _ c.metrics-config_maps.ensures.learns c.metrics-deployments.ensures.learns)) c.load-reached.ensures.loads
    (subst (Learns c.load-reached.new.told) (sym c.settle.ensures.told) c.see-seen.ensures.learns)
