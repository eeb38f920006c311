use Rattle.std.proofs.Common.{Some, sym, subst}
use Rattle.route_req.specs.Asks.{RefusesObject}
use Rattle.route_req.proofs.Refusals.{RefusesObject-told}
use Rattle.route_req.proofs.routing.replace.Goals as goal

pub returns-clause-refused : goal.returns-clause-refused
returns-clause-refused c =
    subst (RefusesObject c.args.resource c.args.ns (Some c.args.name) c.args.body.now) (sym c.refused_object.ensures)
    (RefusesObject-told c.args.resource c.args.ns (Some c.args.name) c.args.body.now c.in-Err.fault (λ e. c.in-Err.ensures.not_json (cc)) c.in-Err.ensures.refused)
