use Rattle.edge_io.specs.Sent.{sent_through}
use Rattle.std.proofs.Common.{subst, sym, ℕ, Option}
use Rattle.watchcache.specs.Run.{RunsAny, use_of}
use Rattle.watchcache.proofs.peer.serve_any.Goals as goal

pub returns-in-Some : goal.returns-in-Some
returns-in-Some g c =
    subst (λ (p : Option ℕ). RunsAny p c.args.setup.options.cluster c.args.namespace.now c.args.setup.options
    (use_of g.N.Net.faults g.N.Net.served g.N.Net.ended g.N.Net.peer c.args.net.now.net c.serve_peer.new.net.net c.serve_peer.new.net.notes)
    (sent_through g.K.Sink.written g.K.Sink.settled g.K.Sink.faults c.args.sink.now c.serve_peer.new.sink) c.serve_peer.result)
    (sym c.in-Some.is) c.serve_peer.ensures

pub returns-in-None : goal.returns-in-None
returns-in-None g c =
    subst (λ (p : Option ℕ). RunsAny p c.args.setup.options.cluster c.args.namespace.now c.args.setup.options
    (use_of g.N.Net.faults g.N.Net.served g.N.Net.ended g.N.Net.peer c.args.net.now.net c.serve_without_peer.new.net.net c.serve_without_peer.new.net.notes)
    (sent_through g.K.Sink.written g.K.Sink.settled g.K.Sink.faults c.args.sink.now c.serve_without_peer.new.sink) c.serve_without_peer.result)
    (sym c.in-None.is) c.serve_without_peer.ensures
