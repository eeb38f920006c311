use Rattle.edge_io.specs.Sent.{sent_through}
use Rattle.std.proofs.Common.{rules}
use Rattle.watchcache.proofs.TellingLemmas.{told_as}
use Rattle.watchcache.proofs.unknown.write_bad_list.Goals as goal

pub returns : goal.returns
returns g c =
    told_as _ _ 12 (sent_through g.K.Sink.written g.K.Sink.settled g.K.Sink.faults c.args.sink.now c.tell.new.sink) c.tell.result
    (search rules) c.tell.ensures
