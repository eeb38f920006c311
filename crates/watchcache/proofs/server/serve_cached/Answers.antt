use Rattle.edge_io.specs.Sent.{sent_through}
use Rattle.std.proofs.Common.{◌≡◌, arith}
use Rattle.watchcache.proofs.ServerLemmas.{server_since}
use Rattle.watchcache.proofs.server.serve_cached.Goals as goal

pub returns-in-Ok : goal.returns-in-Ok
returns-in-Ok g c =
    let quiet : g.N.Net.faults c.listen.new.self.net ≡ g.N.Net.faults c.args.net.now.net = omega (arith, c.in-Ok.ensures.faults) in
    server_since c.args.setup.options
    (sent_through g.K.Sink.written g.K.Sink.settled g.K.Sink.faults c.args.sink.now c.tell_served.new.sink) c.tell_served.result
    (g.N.Net.faults c.args.net.now.net) (g.N.Net.faults c.listen.new.self.net) (g.N.Net.faults c.tell_served.new.net.net)
    (g.N.Net.served c.args.net.now.net) (g.N.Net.served c.listen.new.self.net) (g.N.Net.served c.tell_served.new.net.net)
    (∥ g.N.Net.ended c.tell_served.new.net.net ∥₁) (g.N.Net.peer c.args.net.now.net) (g.N.Net.peer c.listen.new.self.net)
    c.tell_served.new.net.notes quiet c.in-Ok.ensures.served c.tell_served.ensures.runs
