-- What the pages come to is a list, or not.
use Rattle.edge_io.specs.Sent.{sent_through}
use Rattle.cluster_link.proofs.PageLemmas.{list_read}
use Rattle.cluster_link.proofs.list.ClusterList.read.Goals as goal

pub returns-in-Ok-clause-reads : goal.returns-in-Ok-clause-reads
returns-in-Ok-clause-reads g c =
    let read = c.in-Ok.ensures.reads in
    let sent = sent_through g.K.Sink.written g.K.Sink.settled g.K.Sink.faults c.args.sink.now c.read_pages.new.sink in
    (read.0, read.1, list_read c.args.selection read.0 (g.S.Source.left c.read_pages.new.source) sent c.read_pages.new.gathered c.list_of.result read.2 c.list_of.ensures)
