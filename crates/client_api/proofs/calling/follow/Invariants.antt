use Rattle.client_api.specs.Facts.{IsOnward}
use Rattle.client_api.proofs.CallingLemmas.{Goes}
use Rattle.client_api.proofs.calling.follow.Given as goal

-- the watch goes on, and the lines so far are those of a body up to its position
abbrev pub invariant-loop : goal.invariant-loop
invariant-loop g l = record {
  onward : IsOnward (g.C.Client.pass l.fn.client) (g.C.Client.pass l.client);
  goes : Goes g.C.Client.base (g.C.Client.facts l.fn.client).window l.ask (g.C.Client.facts l.client) (g.C.Client.pass l.client) l.position;
}
