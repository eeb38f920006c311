-- The session over the clients that ring is one over the clients that they were made of.
use Rattle.std.proofs.Common.{◌∙◌, ap}
use Rattle.kube_meta.specs.declared.resources.Resource.TheVariants.{Pods, ConfigMaps, Deployments}
use Rattle.net_front.specs.declared.shared.Desk.{Desk}
use Rattle.net_front.proofs.VisitLemmas.{each_at}
use Rattle.net_front.proofs.visitor.Visitor.serve_each.Goals as goal

pub returns-clause-session : goal.returns-clause-session
returns-clause-session g c =
    let e = c.serve_each-how.ensures.session in
    let new = c.serve_each-how.new.clients in
    record {
      taken = e.0;
      sent = e.1;
      readings = e.2;
      pods = g.P.Client.pass new.pods.client;
      config_maps = g.M.Client.pass new.config_maps.client;
      deployments = g.D.Client.pass new.deployments.client;
      source = e.3;
      sink = e.4;
      session = each_at
          (record { base = g.P.Client.base; mirror = g.P.Client.mirror; facts = g.P.Client.facts; whole = g.P.Client.whole; pass = g.P.Client.pass })
          (record { base = g.M.Client.base; mirror = g.M.Client.mirror; facts = g.M.Client.facts; whole = g.M.Client.whole; pass = g.M.Client.pass })
          (record { base = g.D.Client.base; mirror = g.D.Client.mirror; facts = g.D.Client.facts; whole = g.D.Client.whole; pass = g.D.Client.pass })
          c.args.self.settings
          c.of.result.client c.args.clients.pods
          c.of-2.result.client c.args.clients.config_maps
          c.of-3.result.client c.args.clients.deployments
          c.of.result.own c.of-2.result.own c.of-3.result.own Pods ConfigMaps Deployments
          c.of.result.desk.now.followed c.of-2.result.desk.now.followed c.of-3.result.desk.now.followed c.args.desk.now.followed
          (c.of.ensures.client ∙ c.new.ensures.client)
          c.of.ensures.alone
          (ap (λ (d : Desk). d.followed) (c.of.ensures.desk ∙ c.new.ensures.desk))
          (c.of-2.ensures.client ∙ c.new-2.ensures.client)
          c.of-2.ensures.alone
          (ap (λ (d : Desk). d.followed) (c.of-2.ensures.desk ∙ c.new-2.ensures.desk))
          (c.of-3.ensures.client ∙ c.new-3.ensures.client)
          c.of-3.ensures.alone
          (ap (λ (d : Desk). d.followed) (c.of-3.ensures.desk ∙ c.new-3.ensures.desk))
          _ _ _ _ _ e.6;
    }
