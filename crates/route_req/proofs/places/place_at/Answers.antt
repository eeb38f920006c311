use Rattle.std.proofs.lemmas.Result.{IfOk-weaker, on_err_weaker}
use Rattle.route_req.specs.Places.{NamesMaybe}
use Rattle.route_req.proofs.Paths.{NamesMaybe-found, MayLackMemory-found}
use Rattle.route_req.proofs.places.place_at.Goals as goal

pub returns-clause-named : goal.returns-clause-named
returns-clause-named c =
    IfOk-weaker c.look_up.result _ (NamesMaybe c.args.path.now) (λ found e. NamesMaybe-found c.args.path.now found e) c.look_up.ensures.found

pub returns-clause-memory : goal.returns-clause-memory
returns-clause-memory c = on_err_weaker c.look_up.result (MayLackMemory-found c.args.path.now) c.look_up.ensures.memory
