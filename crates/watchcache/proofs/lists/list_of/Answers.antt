use Rattle.edge_io.specs.Sent.{sent_through}
use Rattle.watchcache.proofs.ListLemmas.{lists, of_all, rose}
use Rattle.watchcache.proofs.lists.list_of.Goals as goal

pub read-requires : goal.read-requires
read-requires g c = of_all c.args.resource c.args.namespace.now c.in-Ok.selection c.in-Ok.ensures c.requires

pub returns-in-Ok-clause-lists : goal.returns-in-Ok-clause-lists
returns-in-Ok-clause-lists g c =
    lists c.args.resource c.args.namespace.now c.in-Ok.selection (g.S.Source.left c.args.source.now) (g.S.Source.left c.read.new.source) c.read.ensures.reads.0
    (sent_through g.K.Sink.written g.K.Sink.settled g.K.Sink.faults c.args.request.now c.read.new.sink) c.read.result
    c.in-Ok.ensures c.read.ensures.reads.1 c.read.ensures.reads.2

pub returns-in-Ok-clause-writes : goal.returns-in-Ok-clause-writes
returns-in-Ok-clause-writes g c =
    rose c.in-Ok.selection c.read.ensures.reads.0 (g.S.Source.left c.read.new.source)
    (sent_through g.K.Sink.written g.K.Sink.settled g.K.Sink.faults c.args.request.now c.read.new.sink) c.read.result c.read.ensures.reads.2
