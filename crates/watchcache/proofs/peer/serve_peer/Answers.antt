use Rattle.edge_io.specs.Sent.{sent_through}
use Rattle.std.proofs.Common.{◌≡◌, arith}
use Rattle.watchcache.proofs.PeerLemmas.{dialled}
use Rattle.watchcache.specs.Run.{IsOfBytes, SendsNone, SendsOpening}
use Rattle.watchcache.specs.Texts.{peer_line}
use Rattle.watchcache.proofs.peer.serve_peer.Goals as goal

pub returns-in-Ok : goal.returns-in-Ok
returns-in-Ok g c =
    let quiet : g.N.Net.faults c.dial.new.self.net ≡ g.N.Net.faults c.args.net.now.net = omega (arith, c.in-Ok.ensures.faults) in
    dialled SendsOpening _ SendsNone IsOfBytes peer_line c.args.setup.options.peer c.args.setup.options
    (sent_through g.K.Sink.written g.K.Sink.settled g.K.Sink.faults c.args.sink.now c.open_over.new.sink) c.open_over.result
    (g.N.Net.faults c.args.net.now.net) (g.N.Net.faults c.dial.new.self.net) (g.N.Net.faults c.open_over.new.net.net)
    (g.N.Net.served c.args.net.now.net) (g.N.Net.served c.dial.new.self.net) (g.N.Net.served c.open_over.new.net.net)
    (∥ g.N.Net.ended c.open_over.new.net.net ∥₁) (g.N.Net.peer c.args.net.now.net) (g.N.L.S.Source.left c.in-Ok.source) c.open_over.new.net.notes
    quiet c.in-Ok.ensures.served c.in-Ok.ensures.peer c.open_over.ensures
