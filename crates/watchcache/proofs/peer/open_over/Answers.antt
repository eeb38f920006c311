use Rattle.edge_io.specs.Sent.{sent_through}
use Rattle.std.proofs.Common.{◌∙◌}
use Rattle.watchcache.proofs.PeerLemmas.{opened, unopened}
use Rattle.watchcache.specs.Run.{IsOfBytes, SendsNone, SendsOpening}
use Rattle.watchcache.specs.Texts.{peer_line}
use Rattle.watchcache.proofs.peer.open_over.Goals as goal

pub returns-in-Ok : goal.returns-in-Ok
returns-in-Ok g c =
    opened SendsOpening _ SendsNone IsOfBytes peer_line c.args.setup.options.peer c.args.setup.options
    (sent_through g.K.Sink.written g.K.Sink.settled g.K.Sink.faults c.args.sink.now c.serve_opening.new.sink) c.serve_opening.result
    (g.N.Net.faults c.args.net.now.net) (g.N.Net.faults c.serve_opening.new.net.net) (g.N.Net.served c.args.net.now.net) (g.N.Net.served c.serve_opening.new.net.net)
    (∥ g.N.Net.ended c.serve_opening.new.net.net ∥₁) (g.N.L.S.Source.left c.args.source) (g.N.Net.peer c.args.net.now.net) c.serve_opening.new.net.notes
    (c.serve_opening.ensures.dialled ∙ c.requires.dialled) (c.in-Ok.ensures.opens c.base-first.ensures.lawful) c.serve_opening.ensures.runs

pub returns-in-Err : goal.returns-in-Err
returns-in-Err g c =
    unopened SendsOpening _ SendsNone IsOfBytes peer_line c.args.setup.options.peer c.args.setup.options c.in-Err.why
    (sent_through g.K.Sink.written g.K.Sink.settled g.K.Sink.faults c.args.sink.now c.refuse.new.sink) c.refuse.result
    (g.N.Net.faults c.args.net.now.net) (g.N.Net.faults c.refuse.new.net.net) (g.N.Net.served c.args.net.now.net) (g.N.Net.served c.refuse.new.net.net)
    (∥ g.N.Net.ended c.refuse.new.net.net ∥₁) (g.N.L.S.Source.left c.args.source) (g.N.Net.peer c.args.net.now.net) c.refuse.new.net.notes
    (c.refuse.ensures.dialled ∙ c.requires.dialled) c.in-Err.ensures.opens c.refuse.ensures.refuses
