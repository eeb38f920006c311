use Rattle.edge_io.specs.Sent.{sent_through}
use Rattle.std.proofs.Common.{◌∙◌, sym}
use Rattle.watchcache.proofs.ClusterLemmas.{behind, unlisted}
use Rattle.watchcache.proofs.cluster.list_over.Goals as goal

pub returns-in-Ok : goal.returns-in-Ok
returns-in-Ok g c =
    behind c.args.namespace.now c.args.setup.options
    (sent_through g.K.Sink.written g.K.Sink.settled g.K.Sink.faults c.args.sink.now c.serve_behind-status.new.sink) c.serve_behind-status.result c.first_of-resource.result
    (g.N.Net.faults c.args.net.now.net) (g.N.Net.faults c.serve_behind-status.new.net.net) (g.N.Net.served c.args.net.now.net) (g.N.Net.served c.serve_behind-status.new.net.net)
    (∥ g.N.Net.ended c.serve_behind-status.new.net.net ∥₁) (g.N.L.S.Source.left c.args.source) (g.N.Net.peer c.args.net.now.net) c.serve_behind-status.new.net.notes
    (c.serve_behind-status.ensures.dialled ∙ (c.requires.dialled ∙ sym c.requires.cluster)) c.first_of-resource.ensures
    (c.in-Ok.ensures.lists c.at.ensures.lawful) c.serve_behind-status.ensures.runs

pub returns-in-Err : goal.returns-in-Err
returns-in-Err g c =
    unlisted c.args.namespace.now c.args.setup.options
    (sent_through g.K.Sink.written g.K.Sink.settled g.K.Sink.faults c.args.sink.now c.refuse.new.sink) c.refuse.result c.first_of-resource.result c.in-Err.why
    (g.N.Net.faults c.args.net.now.net) (g.N.Net.faults c.refuse.new.net.net) (g.N.Net.served c.args.net.now.net) (g.N.Net.served c.refuse.new.net.net)
    (∥ g.N.Net.ended c.refuse.new.net.net ∥₁) (g.N.L.S.Source.left c.args.source) (g.N.Net.peer c.args.net.now.net) c.refuse.new.net.notes
    (c.refuse.ensures.dialled ∙ (c.requires.dialled ∙ sym c.requires.cluster)) c.first_of-resource.ensures
    c.in-Err.ensures.lists c.refuse.ensures.refuses
