use Rattle.edge_io.specs.Sent.{sent_through}
use Rattle.std.proofs.Common.{◌≡◌, arith}
use Rattle.watchcache.proofs.ClusterLemmas.{dialled_first}
use Rattle.watchcache.proofs.cluster.serve_listed.Goals as goal

pub returns-in-Ok : goal.returns-in-Ok
returns-in-Ok g c =
    let quiet : g.N.Net.faults c.dial.new.self.net ≡ g.N.Net.faults c.args.net.now.net = omega (arith, c.in-Ok.ensures.faults) in
    dialled_first c.args.namespace.now c.args.setup.options
    (sent_through g.K.Sink.written g.K.Sink.settled g.K.Sink.faults c.args.sink.now c.list_over-status.new.sink) c.list_over-status.result
    (g.N.Net.faults c.args.net.now.net) (g.N.Net.faults c.dial.new.self.net) (g.N.Net.faults c.list_over-status.new.net.net)
    (g.N.Net.served c.args.net.now.net) (g.N.Net.served c.dial.new.self.net) (g.N.Net.served c.list_over-status.new.net.net)
    (∥ g.N.Net.ended c.list_over-status.new.net.net ∥₁) (g.N.Net.peer c.args.net.now.net) (g.N.L.S.Source.left c.in-Ok.source) c.list_over-status.new.net.notes
    quiet c.in-Ok.ensures.served c.in-Ok.ensures.peer c.list_over-status.ensures
