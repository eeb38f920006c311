use Rattle.std.proofs.Common.{◌≡◌, ◌<◌, None}
use Rattle.client_api.specs.Facts.{Rests}
use Rattle.sess_serve.specs.Each.{strand_of, strands}
use Rattle.sess_serve.proofs.EachSession.{EachLoop}
use Rattle.sess_serve.proofs.each.serve_each.Given as goal

-- the requests so far were answered, one after the other, each over the log of its resource, and the last answer is sent on
abbrev pub invariant-loop-answered : goal.invariant-loop-answered
invariant-loop-answered g l = record {
  turns : EachLoop
      (strands
      (strand_of l.settings g.P.Client.base g.P.Client.mirror (g.P.Client.facts l.initial.clients.pods) (g.P.Client.whole l.initial.clients.pods)
      (g.P.Client.pass l.initial.clients.pods) (g.P.Client.pass l.clients.pods))
      (strand_of l.settings g.M.Client.base g.M.Client.mirror (g.M.Client.facts l.initial.clients.config_maps) (g.M.Client.whole l.initial.clients.config_maps)
      (g.M.Client.pass l.initial.clients.config_maps) (g.M.Client.pass l.clients.config_maps))
      (strand_of l.settings g.D.Client.base g.D.Client.mirror (g.D.Client.facts l.initial.clients.deployments) (g.D.Client.whole l.initial.clients.deployments)
      (g.D.Client.pass l.initial.clients.deployments) (g.D.Client.pass l.clients.deployments)))
      (record { left = g.S.Source.left l.initial.source; written = g.K.Sink.written l.initial.sink; readings = g.T.Clock.readings l.initial.clock })
      (record { left = g.S.Source.left l.source; written = g.K.Sink.written l.sink; readings = g.T.Clock.readings l.clock })
      l.reader.kept l.answered;
  facts_pods : Rests (g.P.Client.facts l.initial.clients.pods) (g.P.Client.facts l.clients.pods);
  facts_config_maps : Rests (g.M.Client.facts l.initial.clients.config_maps) (g.M.Client.facts l.clients.config_maps);
  facts_deployments : Rests (g.D.Client.facts l.initial.clients.deployments) (g.D.Client.facts l.clients.deployments);
  kept_pods : g.P.Client.whole l.initial.clients.pods → g.P.Client.whole l.clients.pods;
  kept_config_maps : g.M.Client.whole l.initial.clients.config_maps → g.M.Client.whole l.clients.config_maps;
  kept_deployments : g.D.Client.whole l.initial.clients.deployments → g.D.Client.whole l.clients.deployments;
  reading : l.reader.refusal ≡ None;
  flushed : 0 < l.answered → g.K.Sink.settled l.sink;
  settled : g.K.Sink.settled l.initial.sink → g.K.Sink.settled l.sink;
  quiet_source : g.S.Source.faults l.source ≡ g.S.Source.faults l.initial.source;
  quiet_sink : g.K.Sink.faults l.sink ≡ g.K.Sink.faults l.initial.sink;
}
