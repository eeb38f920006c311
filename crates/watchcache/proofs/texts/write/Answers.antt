use Rattle.edge_io.specs.Sent.{sent_through}
use Rattle.std.proofs.Common.{append-nil}
use Rattle.watchcache.proofs.TellingLemmas.{told_as}
use Rattle.watchcache.proofs.texts.write.Goals as goal

pub returns : goal.returns
returns g c =
    told_as _ _ c.args.done (sent_through g.K.Sink.written g.K.Sink.settled g.K.Sink.faults c.args.sink.now c.tell.new.sink) c.tell.result
    (append-nil c.args.text.now) c.tell.ensures
