use Rattle.std.proofs.Common.{sym, subst}
use Rattle.route_req.specs.Asks.{RefusesTransact}
use Rattle.route_req.proofs.Refusals.{RefusesTransact-told}
use Rattle.route_req.proofs.routing.transact.Goals as goal

pub returns-in-Err-clause-refused : goal.returns-in-Err-clause-refused
returns-in-Err-clause-refused c =
    subst (RefusesTransact c.args.body.now) (sym c.refused_transaction.ensures) (RefusesTransact-told c.args.body.now c.in-Err.fault c.in-Err.ensures.refused)
