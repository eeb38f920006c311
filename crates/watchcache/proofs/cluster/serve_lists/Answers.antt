use Rattle.edge_io.specs.Sent.{sent_through}
use Rattle.std.proofs.Common.{◌≡◌, arith, inl}
use Rattle.watchcache.proofs.ClusterLemmas.{listed_since, unmirrored}
use Rattle.watchcache.proofs.cluster.serve_lists.Goals as goal

pub returns-in-Ok-serve_cluster-clause-runs : goal.returns-in-Ok-serve_cluster-clause-runs
returns-in-Ok-serve_cluster-clause-runs g c =
    let quiet : g.N.Net.faults c.listen.new.self.net ≡ g.N.Net.faults c.args.net.now.net = omega (arith, c.in-Ok.ensures.faults) in
    listed_since c.args.setup.options
    (sent_through g.K.Sink.written g.K.Sink.settled g.K.Sink.faults c.args.sink.now c.finish.new.sink) c.finish.result
    (g.N.Net.faults c.args.net.now.net) (g.N.Net.faults c.listen.new.self.net) (g.N.Net.faults c.finish.new.net.net)
    (g.N.Net.served c.args.net.now.net) (g.N.Net.served c.listen.new.self.net) (g.N.Net.served c.finish.new.net.net)
    (∥ g.N.Net.ended c.finish.new.net.net ∥₁) (g.N.Net.peer c.args.net.now.net) (g.N.Net.peer c.listen.new.self.net)
    c.finish.new.net.notes quiet c.in-Ok.ensures.served (inl (inl c.finish.ensures.over))

pub returns-in-Err-clause-runs : goal.returns-in-Err-clause-runs
returns-in-Err-clause-runs g c =
    let quiet : g.N.Net.faults c.listen.new.self.net ≡ g.N.Net.faults c.args.net.now.net = omega (arith, c.in-Ok.ensures.faults) in
    unmirrored c.args.setup.options c.in-Err.no.resource c.in-Err.no.why
    (sent_through g.K.Sink.written g.K.Sink.settled g.K.Sink.faults c.args.sink.now c.tell_start.new.sink) c.tell_start.result
    (g.N.Net.faults c.args.net.now.net) (g.N.Net.faults c.listen.new.self.net) (g.N.Net.served c.args.net.now.net) (g.N.Net.served c.listen.new.self.net)
    (∥ g.N.Net.ended c.listen.new.self.net ∥₁) (g.N.Net.peer c.args.net.now.net) c.listen.new.self.notes
    c.in-Err.ensures.start c.tell_start.ensures quiet c.in-Ok.ensures.served
