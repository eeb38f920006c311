use Rattle.laws.proofs.CallLemmas.{caught_up}
use Rattle.laws.proofs.hub_watches.catch_up.Goals as goal

pub returns : goal.returns
returns g c =
    let call = c.catch_up.ensures in
    caught_up c.catch_up.result c.args.hub.now c.catch_up.new.self c.args.id c.args.selection.now c.args.at c.args.many call.caught call.served call.same call.lane
