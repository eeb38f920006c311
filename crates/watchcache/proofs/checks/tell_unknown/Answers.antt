use Rattle.std.proofs.Common.{inl}
use Rattle.edge_io.specs.Sent.{sent_through}
use Rattle.watchcache.specs.Run.{ChecksLogged, ChecksUnknown}
use Rattle.watchcache.proofs.UnknownLemmas.{has_header}
use Rattle.watchcache.proofs.checks.tell_unknown.Goals as goal

pub returns : goal.returns
returns g c =
    let bytes = c.args.bytes.now in
    let sent = sent_through g.K.Sink.written g.K.Sink.settled g.K.Sink.faults c.args.sink.now c.write_judged.new.sink in
    inl (has_header bytes c.args.judged (ChecksLogged bytes sent c.write_judged.result) (ChecksUnknown bytes sent c.write_judged.result) c.requires.said c.requires.other
    (c.args.judged, c.requires.said, c.write_judged.ensures))
