use Rattle.std.proofs.Common.{◌≡◌, refl, subst}
use Rattle.client_api.proofs.LawLemmas.{onwards_do_join}
use Rattle.route_req.specs.declared.documents.Document.TheVariants as document
use Rattle.route_req.specs.Asks.{IsRoute}
use Rattle.route_req.specs.declared.routing.Routed.TheVariants as routed
use Rattle.sess_reply.specs.Replies.{described, unready}
use Rattle.sess_turns.proofs.AloneLemmas.{sole-same}
use Rattle.sess_serve.proofs.Replying.{sends, mirror-unready}
use Rattle.sess_serve.proofs.steps.step_describe.Goals as goal

pub returns-in-Probe : goal.returns-in-Probe
returns-in-Probe g c = λ s.
    let probe = c.in-Probe.probe in
    let same : c.args.document.now ≡ document.Probe probe = c.in-Probe.is in
    let route = subst (λ d. IsRoute c.args.req.now (routed.Describe d)) same c.requires in
    sends _ _ _ _ _ _ c.by_reply.result c.send_unready.result c.by_reply.ensures (unready probe) route
    (mirror-unready _ _ c.passes.ensures c.if-not-passes.true, refl) (onwards_do_join.0 _) (λ w. sole-same _ _ refl) refl
    c.send_unready.ensures

pub returns-in_default : goal.returns-in_default
returns-in_default g c = λ s.
    sends _ _ _ _ _ _ c.by_reply-in_default.result c.send_described.result c.by_reply-in_default.ensures (described c.resources.result c.args.document.now) c.requires
    (c.resources.ensures, refl) (onwards_do_join.0 _)
    (λ w. sole-same _ _ refl) refl
    c.send_described.ensures
