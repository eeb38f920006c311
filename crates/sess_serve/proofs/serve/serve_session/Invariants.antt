use Rattle.std.proofs.Common.{◌≡◌, ◌<◌, ◌≤◌, None}
use Rattle.client_api.specs.Facts.{Rests}
use Rattle.sess_turns.specs.Terms.{terms_of}
use Rattle.sess_serve.proofs.Session.{Loop}
use Rattle.sess_serve.proofs.serve.serve_session.Given as goal

-- the requests so far were answered, one after the other, and the last answer is sent on
abbrev pub invariant-loop-answered : goal.invariant-loop-answered
invariant-loop-answered g l = record {
  turns : Loop (terms_of g.C.Client.base g.C.Client.mirror (g.C.Client.facts l.initial.client) l.settings) (g.C.Client.whole l.initial.client) (g.C.Client.pass l.initial.client)
      (g.C.Client.facts l.initial.client).did
      (record { left = g.S.Source.left l.initial.source; written = g.K.Sink.written l.initial.sink; readings = g.T.Clock.readings l.initial.clock })
      (record { left = g.S.Source.left l.source; written = g.K.Sink.written l.sink; readings = g.T.Clock.readings l.clock })
      l.reader.kept (g.C.Client.pass l.client) (g.C.Client.facts l.client).did l.answered;
  facts : Rests (g.C.Client.facts l.initial.client) (g.C.Client.facts l.client);
  heard : g.T.Clock.last l.initial.clock ≤ (g.C.Client.facts l.initial.client).heard → g.T.Clock.last l.clock ≤ (g.C.Client.facts l.client).heard;
  kept : g.C.Client.whole l.initial.client → g.C.Client.whole l.client;
  reading : l.reader.refusal ≡ None;
  flushed : 0 < l.answered → g.K.Sink.settled l.sink;
  settled : g.K.Sink.settled l.initial.sink → g.K.Sink.settled l.sink;
  quiet_source : g.S.Source.faults l.source ≡ g.S.Source.faults l.initial.source;
  quiet_sink : g.K.Sink.faults l.sink ≡ g.K.Sink.faults l.initial.sink;
}
