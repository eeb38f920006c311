use Rattle.laws.proofs.CallLemmas.{went_along}
use Rattle.laws.proofs.hub_watches.go_along.Goals as goal

pub returns : goal.returns
returns g c =
    let call = c.go_along.ensures in
    went_along c.go_along.result c.args.hub.now c.go_along.new.self c.args.id c.args.selection.now c.args.at call.along call.caught call.same call.lane
