use Rattle.edge_io.specs.Sent.{sent_through}
use Rattle.watchcache.proofs.PeerLemmas.{rose}
use Rattle.watchcache.proofs.peer.opening_of.Goals as goal

pub returns-clause-writes : goal.returns-clause-writes
returns-clause-writes g c =
    rose c.read.result _ (sent_through g.K.Sink.written g.K.Sink.settled g.K.Sink.faults c.args.request.now c.read.new.sink) c.read.ensures.asks
