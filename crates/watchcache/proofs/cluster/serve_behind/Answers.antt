use Rattle.edge_io.specs.Sent.{sent_through}
use Rattle.watchcache.proofs.ClusterLemmas.{listed_since}
use Rattle.watchcache.proofs.cluster.serve_behind.Goals as goal

pub returns-in-Ok-clause-runs : goal.returns-in-Ok-clause-runs
returns-in-Ok-clause-runs g c =
    listed_since c.args.setup.options
    (sent_through g.K.Sink.written g.K.Sink.settled g.K.Sink.faults c.args.sink.now c.serve_lists.new.sink) c.serve_lists.result
    (g.N.Net.faults c.args.net.now.net) (g.N.Net.faults c.list_behind.new.net.net) (g.N.Net.faults c.serve_lists.new.net.net)
    (g.N.Net.served c.args.net.now.net) (g.N.Net.served c.list_behind.new.net.net) (g.N.Net.served c.serve_lists.new.net.net)
    (∥ g.N.Net.ended c.serve_lists.new.net.net ∥₁) (g.N.Net.peer c.args.net.now.net) (g.N.Net.peer c.list_behind.new.net.net)
    c.serve_lists.new.net.notes c.in-Ok.ensures.listed c.in-Ok.ensures.served c.serve_lists.ensures.runs
