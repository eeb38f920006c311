use Rattle.std.proofs.Common.{◌∙◌, ◌<◌, ◌≡◌, [], None, ap, arith, refl}
use Rattle.http_read.specs.Readers.{ReaderState}
use Rattle.sess_serve.proofs.Session.{loop-start, loop-next, loop-ends, loop-full, none-begun, terms-rest, facts-next, facts-idle}
use Rattle.sess_serve.proofs.Ending.{read-map, write-map}
use Rattle.sess_serve.proofs.serve.serve_session.Goals as goal

pub returns-in_default-clause-session : goal.returns-in_default-clause-session
returns-in_default-clause-session g c =
    let room : 0 < c.args.settings.now.requests = omega (arith, c.requires.settings.requests) in
    none-begun _ _ _ _ (record { left = _; written = _; readings = _ }) _ _ room

pub loop-answered-init : goal.loop-answered-init
loop-answered-init g c =
    let e : c.in-Ok.reader ≡ record { kept = []; refusal = None } = c.in-Ok.ensures in
    record {
      turns = loop-start _ _ _ _ _ c.in-Ok.reader.kept (ap (λ (x : ReaderState). x.kept) e);
      facts = refl;
      heard = λ h. h;
      kept = λ w. w;
      reading = ap (λ (x : ReaderState). x.refusal) e;
      flushed = λ some. absurd (omega (arith, some));
      settled = λ s. s;
      quiet_source = refl;
      quiet_sink = refl;
    }

pub loop-answered-preserved : goal.loop-answered-preserved
loop-answered-preserved g c =
    let i = c.loop-answered.invariant in
    let e = c.in-None.ensures in
    record {
      turns = loop-next _ _ (terms-rest _ _ _ (g.C.Client.facts c.args.client.now) _ _ _ i.facts) _ _ i.kept _ _ _ _ _ _ _ _ _ _ _ c.loop-answered.answered _ _
          i.turns e.round;
      facts = facts-next (g.C.Client.facts c.args.client.now) _ _ i.facts e.facts;
      heard = λ h. e.heard (i.heard h);
      kept = λ w. e.kept (i.kept w);
      reading = e.reading;
      flushed = λ some. e.flushed;
      settled = λ s. e.flushed;
      quiet_source = e.quiet_source ∙ i.quiet_source;
      quiet_sink = e.quiet_sink ∙ i.quiet_sink;
    }

pub returns-in-Some-clause-session : goal.returns-in-Some-clause-session
returns-in-Some-clause-session g c =
    let i = c.loop-answered.invariant in
    let room : c.loop-answered.answered < c.args.settings.now.requests = omega arith in
    loop-ends _ _ (terms-rest _ _ _ (g.C.Client.facts c.args.client.now) _ _ _ i.facts) _ _ i.kept _ _ _ _ _ _ _ _ _ _ _ c.loop-answered.answered _ _ i.turns
    c.in-Some.end room
    (rw (i.quiet_source, i.quiet_sink) at c.in-Some.ensures.round)

pub returns-in-Some-clause-facts : goal.returns-in-Some-clause-facts
returns-in-Some-clause-facts g c = facts-next (g.C.Client.facts c.args.client.now) _ _ c.loop-answered.invariant.facts c.in-Some.ensures.facts

pub returns-in-Some-clause-heard : goal.returns-in-Some-clause-heard
returns-in-Some-clause-heard g c = λ h. c.in-Some.ensures.heard (c.loop-answered.invariant.heard h)

pub returns-in-Some-clause-kept : goal.returns-in-Some-clause-kept
returns-in-Some-clause-kept g c = λ w. c.in-Some.ensures.kept (c.loop-answered.invariant.kept w)

pub returns-in-Some-clause-settled : goal.returns-in-Some-clause-settled
returns-in-Some-clause-settled g c = λ s. c.in-Some.ensures.settled (c.loop-answered.invariant.settled s)

pub returns-in-Some-clause-quiet_source : goal.returns-in-Some-clause-quiet_source
returns-in-Some-clause-quiet_source g c = read-map c.in-Some.end (λ e. e ∙ c.loop-answered.invariant.quiet_source) c.in-Some.ensures.quiet_source

pub returns-in-Some-clause-quiet_sink : goal.returns-in-Some-clause-quiet_sink
returns-in-Some-clause-quiet_sink g c = write-map c.in-Some.end (λ e. e ∙ c.loop-answered.invariant.quiet_sink) c.in-Some.ensures.quiet_sink

pub round-requires-clause-idle : goal.round-requires-clause-idle
round-requires-clause-idle g c = facts-idle (g.C.Client.facts c.args.client.now) _ c.requires.idle c.loop-answered.invariant.facts

pub returns-clause-session : goal.returns-clause-session
returns-clause-session g c =
    let full : c.loop-answered.answered ≡ c.args.settings.now.requests = omega arith in
    loop-full _ _ _ _ _ _ _ _ _ c.loop-answered.answered _ _ c.loop-answered.invariant.turns full
