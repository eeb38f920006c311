use Rattle.edge_io.specs.Sent.{sent_through}
use Rattle.std.proofs.Common.{rules}
use Rattle.watchcache.proofs.TellingLemmas.{told_as}
use Rattle.watchcache.proofs.UnknownLemmas.{held_text}
use Rattle.watchcache.proofs.unknown.write_lawful.Goals as goal

pub returns : goal.returns
returns g c =
    told_as _ _ 0 (sent_through g.K.Sink.written g.K.Sink.settled g.K.Sink.faults c.args.sink.now c.tell.new.sink) c.tell.result
    (held_text _ _ _ _ c.args.from c.args.to c.args.held c.args.lists (search rules) (search rules) (search rules) (search rules)) c.tell.ensures
