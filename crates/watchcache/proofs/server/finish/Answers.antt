use Rattle.std.proofs.Common.{◌∙◌, ap, Some}
use Rattle.watchcache.proofs.ServerLemmas.{why_ended}
use Rattle.watchcache.proofs.server.finish.Goals as goal

pub returns-clause-over : goal.returns-clause-over
returns-clause-over g c = record {
  port = c.shut.ensures.listened ∙ c.requires.port;
  settings = c.shut.ensures.settings ∙ ap Some c.requires.settings;
  ended = why_ended g.N.L.Listener.given g.N.L.Listener.over g.N.L.Listener.faults c.args.served.listener _ _ _ _ _
      c.requires.accepted c.shut.ensures.served c.shut.ensures.ended c.shut.ensures.failed c.requires.ended;
  told = c.shut.ensures.told;
}
