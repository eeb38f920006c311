use Rattle.std.proofs.Common.{◌≡◌, ◌≤◌, Some}
use Rattle.edge_io.specs.Sent.{sent_through}
use Rattle.sess_turns.specs.Streams.{outside_of}
use Rattle.sess_turns.specs.Terms.{terms_of}
use Rattle.sess_turns.specs.Turns.{most_turns}
use Rattle.sess_turns.proofs.TurnLemmas.{SoFar}
use Rattle.sess_turns.proofs.turns.turns.Given as goal

-- the watch goes on, and the turns so far brought it to where it stands
abbrev pub invariant-loop : goal.invariant-loop
invariant-loop g l = record {
  so : SoFar (terms_of g.C.Client.base g.C.Client.mirror (g.C.Client.facts l.fn.client) l.settings) l.view l.ask l.start (g.C.Client.whole l.fn.client)
      (record { pass = g.C.Client.pass l.fn.client; position = l.at; mark = l.start.ms })
      l.counter
      (record { pass = g.C.Client.pass l.client; position = l.place.position; mark = l.place.mark })
      (outside_of g.T.Clock.readings l.fn.clock l.clock (sent_through g.K.Sink.written g.K.Sink.settled g.K.Sink.faults l.fn.sink l.sink));
  few : l.counter ≤ most_turns;
  watching : (g.C.Client.facts l.client).watching ≡ Some (record { selection = l.ask.selection; position = l.place.position });
  same : g.C.Client.facts l.client ≡ record (g.C.Client.facts l.fn.client) { watching = (g.C.Client.facts l.client).watching; heard = (g.C.Client.facts l.client).heard };
  settled : g.K.Sink.settled l.sink;
  heard : g.T.Clock.last l.clock ≤ (g.C.Client.facts l.client).heard;
  kept : g.C.Client.whole l.fn.client → g.C.Client.whole l.client;
}
