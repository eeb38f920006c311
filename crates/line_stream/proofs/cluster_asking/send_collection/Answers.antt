use Rattle.std.proofs.Common.{◌++◌, codes, subst}
use Rattle.edge_io.specs.Sent.{sent_through}
use Rattle.kube_meta.specs.Resources.{plural_of}
use Rattle.line_stream.specs.AskAnswers.{Asks}
use Rattle.line_stream.specs.ClusterRequests.{get_request, path_below}
use Rattle.line_stream.proofs.cluster_asking.send_collection.Goals as goal

pub returns : goal.returns
returns g c =
    let sent = sent_through g.K.Sink.written g.K.Sink.settled g.K.Sink.faults c.args.sink.now c.send_below.new.sink in
    let query = codes "?" ++ c.args.form.now in
    subst (λ b. Asks c.send_below.result (get_request (path_below b (plural_of c.args.resource) c.args.ns.now ++ query)) sent) c.base_path.ensures
    (subst (λ p. Asks c.send_below.result (get_request (path_below c.base_path.result.now p c.args.ns.now ++ query)) sent) c.plural.ensures c.send_below.ensures)
