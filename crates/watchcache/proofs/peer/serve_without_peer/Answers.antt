use Rattle.edge_io.specs.Sent.{sent_through}
use Rattle.std.proofs.Common.{subst, sym, ℕ, Option, None}
use Rattle.watchcache.specs.Run.{RunsAny, use_of}
use Rattle.watchcache.proofs.peer.serve_without_peer.Goals as goal

pub returns-in-Some : goal.returns-in-Some
returns-in-Some g c =
    subst (λ (cluster : Option ℕ). RunsAny None cluster c.args.namespace.now c.args.setup.options
    (use_of g.N.Net.faults g.N.Net.served g.N.Net.ended g.N.Net.peer c.args.net.now.net c.serve_listed.new.net.net c.serve_listed.new.net.notes)
    (sent_through g.K.Sink.written g.K.Sink.settled g.K.Sink.faults c.args.sink.now c.serve_listed.new.sink) c.serve_listed.result)
    (sym c.in-Some.is) c.serve_listed.ensures

pub returns-in-None : goal.returns-in-None
returns-in-None g c =
    subst (λ (cluster : Option ℕ). RunsAny None cluster c.args.namespace.now c.args.setup.options
    (use_of g.N.Net.faults g.N.Net.served g.N.Net.ended g.N.Net.peer c.args.net.now.net c.serve_own.new.net.net c.serve_own.new.net.notes)
    (sent_through g.K.Sink.written g.K.Sink.settled g.K.Sink.faults c.args.sink.now c.serve_own.new.sink) c.serve_own.result)
    (sym c.in-None.is) c.serve_own.ensures
