use Rattle.edge_io.specs.Sent.{sent_through}
use Rattle.watchcache.proofs.ClusterLemmas.{told_start}
use Rattle.watchcache.proofs.cluster.tell_start.Goals as goal

pub returns-in_default : goal.returns-in_default
returns-in_default g c =
    told_start c.args.no.resource c.args.no.why (sent_through g.K.Sink.written g.K.Sink.settled g.K.Sink.faults c.args.sink.now c.write_refusal.new.sink) c.write_refusal.result
    c.in_default.not-Memory c.write_refusal.ensures
