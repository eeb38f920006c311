use Rattle.std.proofs.Common.{◌∙◌, ◌<◌, ◌≡◌, [], None, ap, arith, refl}
use Rattle.http_read.specs.Readers.{ReaderState}
use Rattle.sess_serve.proofs.EachSession.{each-start, each-none, each-next, each-ends, each-full}
use Rattle.sess_serve.proofs.Session.{terms-rest, facts-next, facts-idle}
use Rattle.sess_serve.proofs.Ending.{read-map, write-map}
use Rattle.sess_serve.proofs.each.serve_each.Goals as goal

pub returns-in_default-clause-session : goal.returns-in_default-clause-session
returns-in_default-clause-session g c =
    let room : 0 < c.args.settings.now.requests = omega (arith, c.requires.settings.requests) in
    each-none _ _ _ refl refl refl (record { left = _; written = _; readings = _ }) _ _ room

pub loop-answered-init : goal.loop-answered-init
loop-answered-init g c =
    let e : c.in-Ok.reader ≡ record { kept = []; refusal = None } = c.in-Ok.ensures in
    record {
      turns = each-start _ _ _ refl refl refl _ c.in-Ok.reader.kept (ap (λ (x : ReaderState). x.kept) e);
      facts_pods = refl;
      facts_config_maps = refl;
      facts_deployments = refl;
      kept_pods = λ w. w;
      kept_config_maps = λ w. w;
      kept_deployments = λ w. w;
      reading = ap (λ (x : ReaderState). x.refusal) e;
      flushed = λ some. absurd (omega (arith, some));
      settled = λ s. s;
      quiet_source = refl;
      quiet_sink = refl;
    }

pub loop-answered-preserved : goal.loop-answered-preserved
loop-answered-preserved g c =
    let i = c.loop-answered.invariant in
    let e = c.in-None.ensures in
    record {
      turns = each-next _ _ _ _ _ _
          (record { terms = terms-rest _ _ _ (g.P.Client.facts c.args.clients.now.pods) _ _ _ i.facts_pods; still = i.kept_pods; meets = refl })
          (record { terms = terms-rest _ _ _ (g.M.Client.facts c.args.clients.now.config_maps) _ _ _ i.facts_config_maps; still = i.kept_config_maps; meets = refl })
          (record { terms = terms-rest _ _ _ (g.D.Client.facts c.args.clients.now.deployments) _ _ _ i.facts_deployments; still = i.kept_deployments; meets = refl })
          refl refl _ _ _ _ _ c.loop-answered.answered _ _ i.turns None e.round refl;
      facts_pods = facts-next (g.P.Client.facts c.args.clients.now.pods) _ _ i.facts_pods e.facts_pods;
      facts_config_maps = facts-next (g.M.Client.facts c.args.clients.now.config_maps) _ _ i.facts_config_maps e.facts_config_maps;
      facts_deployments = facts-next (g.D.Client.facts c.args.clients.now.deployments) _ _ i.facts_deployments e.facts_deployments;
      kept_pods = λ w. e.kept_pods (i.kept_pods w);
      kept_config_maps = λ w. e.kept_config_maps (i.kept_config_maps w);
      kept_deployments = λ w. e.kept_deployments (i.kept_deployments w);
      reading = e.reading;
      flushed = λ some. e.flushed;
      settled = λ s. e.flushed;
      quiet_source = e.quiet_source ∙ i.quiet_source;
      quiet_sink = e.quiet_sink ∙ i.quiet_sink;
    }

pub returns-in-Some-clause-session : goal.returns-in-Some-clause-session
returns-in-Some-clause-session g c =
    let i = c.loop-answered.invariant in
    let room : c.loop-answered.answered < c.args.settings.now.requests = omega arith in
    each-ends _ _ _ _ _ _
    (record { terms = terms-rest _ _ _ (g.P.Client.facts c.args.clients.now.pods) _ _ _ i.facts_pods; still = i.kept_pods; meets = refl })
    (record { terms = terms-rest _ _ _ (g.M.Client.facts c.args.clients.now.config_maps) _ _ _ i.facts_config_maps; still = i.kept_config_maps; meets = refl })
    (record { terms = terms-rest _ _ _ (g.D.Client.facts c.args.clients.now.deployments) _ _ _ i.facts_deployments; still = i.kept_deployments; meets = refl })
    refl refl _ _ _ _ _ c.loop-answered.answered _ _ i.turns _
    (rw (i.quiet_source, i.quiet_sink) at c.in-Some.ensures.round) c.in-Some.end refl room

pub returns-in-Some-clause-facts_pods : goal.returns-in-Some-clause-facts_pods
returns-in-Some-clause-facts_pods g c = facts-next (g.P.Client.facts c.args.clients.now.pods) _ _ c.loop-answered.invariant.facts_pods c.in-Some.ensures.facts_pods

pub returns-in-Some-clause-facts_config_maps : goal.returns-in-Some-clause-facts_config_maps
returns-in-Some-clause-facts_config_maps g c =
    facts-next (g.M.Client.facts c.args.clients.now.config_maps) _ _ c.loop-answered.invariant.facts_config_maps c.in-Some.ensures.facts_config_maps

pub returns-in-Some-clause-facts_deployments : goal.returns-in-Some-clause-facts_deployments
returns-in-Some-clause-facts_deployments g c =
    facts-next (g.D.Client.facts c.args.clients.now.deployments) _ _ c.loop-answered.invariant.facts_deployments c.in-Some.ensures.facts_deployments

pub returns-in-Some-clause-kept_pods : goal.returns-in-Some-clause-kept_pods
returns-in-Some-clause-kept_pods g c = λ w. c.in-Some.ensures.kept_pods (c.loop-answered.invariant.kept_pods w)

pub returns-in-Some-clause-kept_config_maps : goal.returns-in-Some-clause-kept_config_maps
returns-in-Some-clause-kept_config_maps g c = λ w. c.in-Some.ensures.kept_config_maps (c.loop-answered.invariant.kept_config_maps w)

pub returns-in-Some-clause-kept_deployments : goal.returns-in-Some-clause-kept_deployments
returns-in-Some-clause-kept_deployments g c = λ w. c.in-Some.ensures.kept_deployments (c.loop-answered.invariant.kept_deployments w)

pub returns-in-Some-clause-settled : goal.returns-in-Some-clause-settled
returns-in-Some-clause-settled g c = λ s. c.in-Some.ensures.settled (c.loop-answered.invariant.settled s)

pub returns-in-Some-clause-quiet_source : goal.returns-in-Some-clause-quiet_source
returns-in-Some-clause-quiet_source g c = read-map c.in-Some.end (λ e. e ∙ c.loop-answered.invariant.quiet_source) c.in-Some.ensures.quiet_source

pub returns-in-Some-clause-quiet_sink : goal.returns-in-Some-clause-quiet_sink
returns-in-Some-clause-quiet_sink g c = write-map c.in-Some.end (λ e. e ∙ c.loop-answered.invariant.quiet_sink) c.in-Some.ensures.quiet_sink

pub round_each-requires-clause-idle_pods : goal.round_each-requires-clause-idle_pods
round_each-requires-clause-idle_pods g c = facts-idle (g.P.Client.facts c.args.clients.now.pods) _ c.requires.idle_pods c.loop-answered.invariant.facts_pods

pub round_each-requires-clause-idle_config_maps : goal.round_each-requires-clause-idle_config_maps
round_each-requires-clause-idle_config_maps g c =
    facts-idle (g.M.Client.facts c.args.clients.now.config_maps) _ c.requires.idle_config_maps c.loop-answered.invariant.facts_config_maps

pub round_each-requires-clause-idle_deployments : goal.round_each-requires-clause-idle_deployments
round_each-requires-clause-idle_deployments g c =
    facts-idle (g.D.Client.facts c.args.clients.now.deployments) _ c.requires.idle_deployments c.loop-answered.invariant.facts_deployments

pub returns-clause-session : goal.returns-clause-session
returns-clause-session g c =
    let full : c.loop-answered.answered ≡ c.args.settings.now.requests = omega arith in
    each-full _ _ _ _ c.loop-answered.answered _ _ c.loop-answered.invariant.turns full
